use Rattle.std.proofs.Common.{◌≡◌, ◌∙◌, [], true, false, sym, subst, arith, take, take_all}
use Rattle.trace_stuck.specs.Release.{IsReleaseOrder}
use Rattle.trace_stuck.proofs.Orders.{left_out, nothing}
use Rattle.trace_stuck.proofs.Checks.{step_at, step_more}
use Rattle.trace_stuck.proofs.check.check_release.Goals as goal

pub returns-then-not-is_step-clause-order : goal.returns-then-not-is_step-clause-order
returns-then-not-is_step-clause-order c = (
  λ (h : false ≡ true). absurd (nothing h),
  λ (o : IsReleaseOrder c.args.states.now c.args.conditions.now c.args.release.now).
      absurd (nothing (c.if-not-is_step.ensures ∙ step_at c.args.states.now c.args.conditions.now [] c.args.release.now c.loop-i.i c.loop-i-test.true o)),
)

pub loop-i-preserved : goal.loop-i-preserved
loop-i-preserved c = step_more c.args.states.now c.args.conditions.now c.args.release.now c.loop-i.i c.loop-i-test.true (sym c.if-not-is_step.ensures) c.loop-i.invariant

pub returns-clause-out : goal.returns-clause-out
returns-clause-out c = λ _ inside closed r a.
    let whole : take c.loop-i.i c.args.release.now ≡ c.args.release.now = take_all c.loop-i.i c.args.release.now (omega (arith, c.loop-i-test.false)) in
    left_out c.args.states.now c.args.conditions.now inside closed [] c.args.release.now (λ t n. absurd (nothing n))
    (subst (IsReleaseOrder c.args.states.now c.args.conditions.now) whole c.loop-i.invariant) r a
