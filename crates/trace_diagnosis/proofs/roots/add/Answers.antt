use Rattle.std.proofs.Common.{List, [], ◌∷◌, subst, sym}
use Rattle.std.proofs.lemmas.List.Elements.{Contains-push}
use Rattle.trace_diagnosis.specs.Roots.{AddsRoot, Covers}
use Rattle.diagnosis_value.specs.declared.diagnosis.Root.{Root}
use Rattle.trace_diagnosis.proofs.Covering.{contains_left, covers_more, covers_self, same_kind}
use Rattle.trace_diagnosis.proofs.Rooted.{adds_push}
use Rattle.trace_diagnosis.proofs.roots.add.Goals as goal

pub returns-then-not-is_joined-clause-sound : goal.returns-then-not-is_joined-clause-sound
returns-then-not-is_joined-clause-sound c =
    subst (λ (l : List Root). AddsRoot c.args.roots.now.items c.args.root l) (sym c.in_ok-push.ensures.items) (adds_push c.args.roots.now.items c.args.root)

pub returns-then-not-is_joined-clause-kept : goal.returns-then-not-is_joined-clause-kept
returns-then-not-is_joined-clause-kept c =
    subst (λ (l : List Root). (other : Root) → Covers c.args.roots.now.items other → Covers l other) (sym c.in_ok-push.ensures.items)
    (covers_more c.args.roots.now.items _ (λ r h. contains_left c.args.roots.now.items (c.args.root ∷ []) r h))

pub returns-then-not-is_joined-clause-there : goal.returns-then-not-is_joined-clause-there
returns-then-not-is_joined-clause-there c =
    subst (λ (l : List Root). Covers l c.args.root) (sym c.in_ok-push.ensures.items) (covers_self _ c.args.root (Contains-push c.args.roots.now.items c.args.root))

pub join_at-requires-clause-kind : goal.join_at-requires-clause-kind
join_at-requires-clause-kind c = λ old e.
    same_kind old.kind c.args.root.kind (c.is_joined.ensures c.if-not-is_joined.false) (c.is_of_kind.ensures.kind c.if-is_of_kind.true old (cc (e, c.as_slice.ensures.value)))

pub returns-clause-sound : goal.returns-clause-sound
returns-clause-sound c =
    subst (λ (l : List Root). AddsRoot c.args.roots.now.items c.args.root l) (sym c.in_ok-push-2.ensures.items) (adds_push c.args.roots.now.items c.args.root)

pub returns-clause-kept : goal.returns-clause-kept
returns-clause-kept c =
    subst (λ (l : List Root). (other : Root) → Covers c.args.roots.now.items other → Covers l other) (sym c.in_ok-push-2.ensures.items)
    (covers_more c.args.roots.now.items _ (λ r h. contains_left c.args.roots.now.items (c.args.root ∷ []) r h))

pub returns-clause-there : goal.returns-clause-there
returns-clause-there c =
    subst (λ (l : List Root). Covers l c.args.root) (sym c.in_ok-push-2.ensures.items) (covers_self _ c.args.root (Contains-push c.args.roots.now.items c.args.root))
