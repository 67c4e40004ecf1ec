use Rattle.std.proofs.Common.{List, Option, [], subst}
use Rattle.trace_stuck.specs.declared.condition.Condition.{Condition}
use Rattle.trace_stuck.specs.Release.{IsReleaseOrder, IsWhole}
use Rattle.trace_stuck.proofs.Kept.{released_alike, whole_alike}
use Rattle.trace_stuck.proofs.verdict.release_of.Goals as goal

pub returns-clause-order : goal.returns-clause-order
returns-clause-order c =
    released_alike c.args.states.now c.in_ok-distinct.distinct.items c.args.conditions.now c.in_ok-distinct.ensures [] c.in_ok-release.release.items
    (subst (λ (l : List (Option Condition)). IsReleaseOrder c.args.states.now l c.in_ok-release.release.items) c.deref.ensures.value c.in_ok-release.ensures.order)

pub returns-clause-rest : goal.returns-clause-rest
returns-clause-rest c =
    whole_alike c.args.states.now c.in_ok-distinct.distinct.items c.args.conditions.now c.in_ok-distinct.ensures c.in_ok-release.release.items
    (subst (λ (l : List (Option Condition)). IsWhole c.args.states.now l c.in_ok-release.release.items) c.deref.ensures.value c.in_ok-release.ensures.rest)
