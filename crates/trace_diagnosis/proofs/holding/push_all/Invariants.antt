use Rattle.std.proofs.Common.{◌≡◌, ◌++◌, map, take}
use Rattle.trace_diagnosis.specs.Parts.{of_rank}
use Rattle.trace_diagnosis.proofs.holding.push_all.Given as goal

abbrev pub invariant-loop-rank : goal.invariant-loop-rank
invariant-loop-rank l = l.needs.items ≡ l.fn.needs.items ++ map of_rank (take l.rank-index l.ranks)
