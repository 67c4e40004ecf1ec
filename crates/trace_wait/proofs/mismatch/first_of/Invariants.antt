use Rattle.std.proofs.Common.{◌≡◌}
use Rattle.trace_wait.specs.Collectives.{first_in_row}
use Rattle.trace_wait.proofs.mismatch.first_of.Given as goal

abbrev pub invariant-loop-at : goal.invariant-loop-at
invariant-loop-at l = first_in_row l.rounds l.comm l.at ≡ first_in_row l.rounds l.comm l.k

abbrev pub decreases-loop-at : goal.decreases-loop-at
decreases-loop-at l = l.at
