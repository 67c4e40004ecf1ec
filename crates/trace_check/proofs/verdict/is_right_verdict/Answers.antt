use Rattle.std.proofs.Common.{refl}
use Rattle.trace_check.proofs.Judged.{judged_right, right_listed}
use Rattle.trace_check.proofs.verdict.is_right_verdict.Goals as goal

pub returns : goal.returns
returns c = (
  λ all. judged_right c.args.states.now c.args.conditions.now c.checked_verdicts_are_right.ensures c.args.stuck.now c.args.release.now
      (c.if-not-is_each_once.ensures.0 refl) (c.if-not-check_closed.ensures.0 refl) (c.if-not-check_release.ensures.order.0 refl) (c.if-not-check_release.ensures.out refl)
      (c.are_all_listed.ensures.0 all),
  λ right. c.are_all_listed.ensures.1 (right_listed c.args.states.now c.args.conditions.now c.args.stuck.now c.args.release.now right),
)
