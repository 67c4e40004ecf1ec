use Rattle.std.proofs.Common.{◌∙◌, ◌-◌, ap, slice_get}
use Rattle.trace_diagnosis.specs.Places.{first_of, lesser}
use Rattle.trace_diagnosis.proofs.Joining.{all_taken, none_left, step_taken}
use Rattle.trace_diagnosis.proofs.joined.first_of.Goals as goal

pub loop-step-preserved : goal.loop-step-preserved
loop-step-preserved c = step_taken c.loop-step._step c.in-Some.next c.loop-step.first.items _ c.loop-step.left.now c.loop-step.right.now _ _ (first_of 3 c.args.one.now c.args.other.now) c.loop-step-test.true
    (c.in-Some.ensures ∙ ap (λ o. lesser o c.head-in-loop-step.result) c.head.ensures ∙ ap (λ o. lesser (slice_get c.loop-step.left.now 0) o) c.head-in-loop-step.ensures) c.in_ok-push.ensures.items c.behind-left.ensures c.behind-right.ensures c.loop-step.invariant

pub returns-in-None : goal.returns-in-None
returns-in-None c = none_left (3 - c.loop-step._step) c.loop-step.first.items c.loop-step.left.now c.loop-step.right.now (first_of 3 c.args.one.now c.args.other.now)
    (c.in-None.ensures ∙ ap (λ o. lesser o c.head-in-loop-step.result) c.head.ensures ∙ ap (λ o. lesser (slice_get c.loop-step.left.now 0) o) c.head-in-loop-step.ensures) c.loop-step.invariant

pub returns : goal.returns
returns c = all_taken c.loop-step._step c.loop-step.first.items c.loop-step.left.now c.loop-step.right.now (first_of 3 c.args.one.now c.args.other.now) c.loop-step-test.false c.loop-step.invariant
