use Rattle.std.proofs.Common.{◌≡◌, true, take}
use Rattle.std.specs.List.{list_all}
use Rattle.trace_diagnosis.specs.Holding.{going}
use Rattle.trace_diagnosis.proofs.holding.Going.can_all.Given as goal

abbrev pub invariant-loop-rank : goal.invariant-loop-rank
invariant-loop-rank l = list_all (going l.self) (take l.rank-index l.ranks) ≡ true
