use Rattle.std.proofs.Common.{◌≡◌, map}
use Rattle.std.specs.List.{range_with_len}
use Rattle.trace_diagnosis.specs.Standing.{stands_at, stands_told}
use Rattle.trace_diagnosis.proofs.standing.standing_of.Given as goal

abbrev pub invariant-loop-rank : goal.invariant-loop-rank
invariant-loop-rank l = map stands_told l.all.items ≡ map (stands_at l.know l.ops l.cut) (range_with_len 0 l.rank)
