use Rattle.std.proofs.Common.{◌≡◌, false, take}
use Rattle.std.specs.List.{list_any}
use Rattle.trace_diagnosis.specs.Holding.{going}
use Rattle.trace_diagnosis.proofs.holding.Going.can_one.Given as goal

abbrev pub invariant-loop-rank : goal.invariant-loop-rank
invariant-loop-rank l = list_any (going l.self) (take l.rank-index l.ranks) ≡ false
