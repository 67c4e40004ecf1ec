use Rattle.std.proofs.Common.{arith, ◌∙◌, sym}
use Rattle.trace_pair.proofs.LaneSteps.{ends_with}
use Rattle.trace_pair.proofs.Same.{same_receives}
use Rattle.trace_pair.proofs.lanes.stands_last.Goals as goal

pub returns-then-steps-place-eq1 : goal.returns-then-steps-place-eq1
returns-then-steps-place-eq1 c = λ h.
    ends_with c.args.steps.now c.called_before-place.result c.args.q.now _ c.if-steps-place-eq1.true
    (λ k d lt. c.called_before-place.ensures.parted.0 k d (omega arith) lt) ((same_receives _ c.args.q.now).0 (sym c.eq.ensures ∙ h))
