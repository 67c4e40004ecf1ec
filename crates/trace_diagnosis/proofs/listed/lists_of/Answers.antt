use Rattle.trace_wait.specs.Patterns.{suits}
use Rattle.trace_diagnosis.proofs.Listing.{filter_next}
use Rattle.trace_diagnosis.proofs.listed.lists_of.Goals as goal

pub loop-m-preserved : goal.loop-m-preserved
loop-m-preserved c = λ p h.
    filter_next (λ m. suits m p) c.args.messages.now c.loop-m.m-index _ _ _ c.loop-m-test.true (c.loop-m.invariant p h) (c.in_ok-put_message.ensures p h)
