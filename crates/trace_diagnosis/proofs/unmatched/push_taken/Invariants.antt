use Rattle.trace_diagnosis.specs.Missed.{GoesOn, IsMessageOf}
use Rattle.trace_diagnosis.proofs.unmatched.push_taken.Given as goal

abbrev pub invariant-loop-one : goal.invariant-loop-one
invariant-loop-one l = GoesOn (IsMessageOf l.why l.q) l.fn.near.items l.near.items
