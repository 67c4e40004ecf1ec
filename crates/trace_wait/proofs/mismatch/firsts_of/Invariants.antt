use Rattle.trace_wait.specs.Sets.{AreFirsts}
use Rattle.trace_wait.proofs.mismatch.firsts_of.Given as goal

abbrev pub invariant-loop-round : goal.invariant-loop-round
invariant-loop-round l = AreFirsts l.rounds l.firsts
