use Rattle.std.proofs.Common.{◌++◌, ◌∷◌, [], List, subst}
use Rattle.trace_stuck.specs.declared.condition.Condition.{Condition}
use Rattle.trace_stuck.specs.Distinct.{PartsHoldAlike}
use Rattle.trace_stuck.proofs.Kept.{kept_alike, equal_alike}
use Rattle.trace_stuck.proofs.distinct.keep.Goals as goal

pub returns-then-is_kept : goal.returns-then-is_kept
returns-then-is_kept c =
    subst (λ (l : List Condition). PartsHoldAlike l (l ++ c.args.part ∷ [])) c.deref.ensures.value (kept_alike c.deref.result.now c.args.part (c.is_kept.ensures c.if-is_kept.true))

pub returns : goal.returns
returns c = equal_alike _ _ c.in_ok-push.ensures.items
