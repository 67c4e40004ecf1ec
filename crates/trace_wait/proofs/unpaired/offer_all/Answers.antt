use Rattle.trace_wait.specs.Matching.{is_unpaired_message}
use Rattle.trace_wait.specs.Patterns.{offers}
use Rattle.trace_wait.proofs.Keys.{noted_more}
use Rattle.trace_wait.proofs.unpaired.offer_all.Goals as goal

pub loop-m-preserved : goal.loop-m-preserved
loop-m-preserved c = λ p.
    noted_more (is_unpaired_message c.args.pairs.now.pairs) (λ x. offers c.args.void x p) c.args.sends.now c.loop-m.m-index _ _ _ _ c.loop-m-test.true (c.loop-m.invariant p) (c.in_ok-offer_unpaired.ensures p)
