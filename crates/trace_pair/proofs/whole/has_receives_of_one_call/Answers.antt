use Rattle.std.proofs.Common.{arith}
use Rattle.trace_pair.proofs.Neighbours.{posted_by_call, posted_at_place}
use Rattle.trace_pair.proofs.whole.has_receives_of_one_call.Goals as goal

pub returns-then-calls-next-clause-several : goal.returns-then-calls-next-clause-several
returns-then-calls-next-clause-several c = λ _ s. posted_at_place c.args.calls.now c.loop-next.next _ _ s c.loop-next.invariant.low (omega arith) c.if-calls-next.true

pub returns-clause-single : goal.returns-clause-single
returns-clause-single c = λ _. posted_by_call c.args.calls.now c.requires (λ k d lt e. c.loop-next.invariant.apart k d (omega arith) e)
