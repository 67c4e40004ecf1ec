-- One more label.
use Rattle.std.proofs.Common.{◌≡◌, ℕ, zero, suc, ◌+◌, ◌<◌, ◌≤◌, Bool, true, false, ◌||◌, Option, Some, None, List, [], ◌∷◌, ◌++◌, ◌⊎◌, inl, inr, eqb, refl, ◌∙◌, ap, arith, length, set, length-append}
use Rattle.std.proofs.Math.ListN.{length-set}
use Rattle.std.proofs.lemmas.Bool.Decides.{nat_tests}
use Rattle.std.proofs.lemmas.List.Folds.{list_any-append}
use Rattle.trace_stuck.specs.Release.{among}
use Rattle.trace_stuck.specs.Graph.{label_at}
use Rattle.trace_stuck.specs.Search.{Labelled, LabelledAs, bare, is_bare}

pub two_cases : (b : Bool) → (b ≡ true) ⊎ (b ≡ false)
two_cases true = inl refl
two_cases false = inr refl

pub is_equal : (r s : ℕ) → eqb r s ≡ true → r ≡ s
is_equal r s h = grind (arith, nat_tests)

pub is_other : (r s : ℕ) → eqb r s ≡ false → r ≡ s → ⊥
is_other r s h e = grind (arith, nat_tests)

pub either : (a b : Bool) → (a || b) ≡ true → (a ≡ true) ⊎ (b ≡ true)
either true b h = inl refl
either false b h = inr h

pub neither : (a b : Bool) → (a || b) ≡ false → (a ≡ false) × (b ≡ false)
neither true b h = absurd (cc)
neither false b h = (refl, h)

pub or_right : (a b : Bool) → b ≡ true → (a || b) ≡ true
or_right true b h = refl
or_right false b h = h

pub or_left : (a b : Bool) → a ≡ true → (a || b) ≡ true
or_left a b h = rw h refl

or_false : (a : Bool) → (a || false) ≡ a
or_false true = refl
or_false false = refl

pub among_push : (xs : List ℕ) (r s : ℕ) → among (xs ++ r ∷ []) s ≡ (among xs s || eqb r s)
among_push xs r s = list_any-append (λ t. eqb t s) xs (r ∷ []) ∙ ap (λ b. among xs s || b) (or_false (eqb r s))

pub bare_in : (labels : List (Option ℕ)) (r : ℕ) → is_bare labels r ≡ true → r < length labels
bare_in [] r h = absurd (cc)
bare_in (l ∷ labels) zero h = omega arith
bare_in (l ∷ labels) (suc r) h = omega (arith, bare_in labels r h)

pub bare_none : (labels : List (Option ℕ)) (r : ℕ) → is_bare labels r ≡ true → label_at labels r ≡ None
bare_none [] r h = absurd (cc)
bare_none (None ∷ labels) zero h = refl
bare_none (Some l ∷ labels) zero h = absurd (cc)
bare_none (l ∷ labels) (suc r) h = bare_none labels r h

-- a node that is there and is not bare has a label
pub has_label : (labels : List (Option ℕ)) (r : ℕ) → is_bare labels r ≡ false → r < length labels → (l : ℕ) × (label_at labels r ≡ Some l)
has_label [] r h lt = absurd (omega arith)
has_label (None ∷ labels) zero h lt = absurd (cc)
has_label (Some l ∷ labels) zero h lt = (l, refl)
has_label (l ∷ labels) (suc r) h lt = has_label labels r h (omega arith)

pub set_same : (labels : List (Option ℕ)) (r : ℕ) (o : Option ℕ) → r < length labels → label_at (set labels r o) r ≡ o
set_same [] r o lt = absurd (omega arith)
set_same (l ∷ labels) zero o lt = refl
set_same (l ∷ labels) (suc r) o lt = set_same labels r o (omega arith)

pub set_other : (labels : List (Option ℕ)) (r s : ℕ) (o : Option ℕ) → (r ≡ s → ⊥) → label_at (set labels r o) s ≡ label_at labels s
set_other [] r s o ne = refl
set_other (l ∷ labels) zero zero o ne = absurd (ne refl)
set_other (l ∷ labels) zero (suc s) o ne = refl
set_other (l ∷ labels) (suc r) zero o ne = refl
set_other (l ∷ labels) (suc r) (suc s) o ne = set_other labels r s o (λ e. ne (ap suc e))

fewer_bare : (labels : List (Option ℕ)) (r l : ℕ) → is_bare labels r ≡ true → bare (set labels r (Some l)) + 1 ≡ bare labels
fewer_bare [] r l h = absurd (cc)
fewer_bare (None ∷ labels) zero l h = refl
fewer_bare (Some k ∷ labels) zero l h = absurd (cc)
fewer_bare (None ∷ labels) (suc r) l h = omega (arith, fewer_bare labels r l h)
fewer_bare (Some k ∷ labels) (suc r) l h = fewer_bare labels r l h

labelled_as : (l r : ℕ) (labels : List (Option ℕ)) (stack : List ℕ) (labels2 : List (Option ℕ)) (stack2 : List ℕ) (b : Bool) → is_bare labels r ≡ b →
    LabelledAs b l r labels stack labels2 stack2 → (length labels2 ≡ length labels) × (bare labels2 + length stack2 ≤ bare labels + length stack)
labelled_as l r labels stack labels2 stack2 true h t = (
  ap length t.0 ∙ length-set labels r (Some l),
  (let a = fewer_bare labels r l h in let b = ap bare t.0 in let c = ap length t.1 ∙ length-append stack (r ∷ []) in
      omega (arith, a, b, c)),
)
labelled_as l r labels stack labels2 stack2 false h t = (ap length t.0, (let a = ap bare t.0 in let b = ap length t.1 in omega (arith, a, b)))

-- no label is lost from the lists, and what is pushed was bare
pub labelled_fewer : (l r : ℕ) (labels : List (Option ℕ)) (stack : List ℕ) (labels2 : List (Option ℕ)) (stack2 : List ℕ) → Labelled l r labels stack labels2 stack2 →
    (length labels2 ≡ length labels) × (bare labels2 + length stack2 ≤ bare labels + length stack)
labelled_fewer l r labels stack labels2 stack2 t = labelled_as l r labels stack labels2 stack2 (is_bare labels r) refl t
