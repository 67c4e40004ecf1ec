use Rattle.std.proofs.Common.{◌∙◌, ap, sym, [], length, subst}
use Rattle.trace_stuck.specs.Release.{among}
use Rattle.trace_stuck.specs.Verdicts.{left_below}
use Rattle.trace_stuck.proofs.Orders.{stuck_is_left}
use Rattle.trace_stuck.proofs.Queues.{released_waits}
use Rattle.trace_stuck.proofs.Lefts.{all_left, left_rises}
use Rattle.std.specs.List.Sorted.{IsStrictlyIncreasing}
use Rattle.trace_stuck.proofs.verdict.stuck.Goals as goal

pub returns-clause-others : goal.returns-clause-others
returns-clause-others c = λ r.
    ap (λ l. among l r) c.in_ok-stuck.ensures ∙ ap (λ l. among (left_below c.args.states.now l (length c.args.states.now)) r) c.deref.ensures.value ∙ all_left c.args.states.now c.in_ok-release.release.items r

pub returns-clause-stuck : goal.returns-clause-stuck
returns-clause-stuck c = λ r.
    let e = returns-clause-others c r in
    let s = stuck_is_left c.args.states.now c.args.conditions.now c.in_ok-release.release.items c.in_ok-release.ensures.order
    (released_waits c.args.states.now c.args.conditions.now [] c.in_ok-release.release.items c.in_ok-release.ensures.order) c.in_ok-release.ensures.rest r in
    (λ h. s.0 (sym e ∙ h), λ h. e ∙ s.1 h)

pub returns-clause-rising : goal.returns-clause-rising
returns-clause-rising c = subst IsStrictlyIncreasing (sym c.in_ok-stuck.ensures) (left_rises c.args.states.now c.deref.result.now (length c.args.states.now))
