-- One more rank noted at a rank.
use Rattle.std.proofs.Common.{◌≡◌, ℕ, zero, suc, ◌<◌, true, false, List, [], ◌∷◌, ◌++◌, ◌⊎◌, inl, inr, Some, eqb, refl, sym, ◌∙◌, ap, subst, ⊎_elim, arith, length, set, Vec, Global}
use Rattle.std.specs.Prelude.{slice_get}
use Rattle.std.proofs.Math.ListN.{length-set}
use Rattle.trace_stuck.specs.Release.{among}
use Rattle.trace_stuck.specs.Named.{at_rank, Asks, NotesAll}
use Rattle.trace_stuck.proofs.Holds.{either, or_left, or_right}
use Rattle.trace_stuck.proofs.Orders.{is_equal}
use Rattle.trace_stuck.proofs.Named.{among_append, among_self}

at_same : (askers : List (Vec ℕ Global)) (s : ℕ) (v : Vec ℕ Global) → s < length askers → at_rank (set askers s v) s ≡ v.items
at_same [] s v lt = absurd (omega arith)
at_same (a ∷ askers) zero v lt = refl
at_same (a ∷ askers) (suc s) v lt = at_same askers s v (omega arith)

at_other : (askers : List (Vec ℕ Global)) (s t : ℕ) (v : Vec ℕ Global) → (s ≡ t → ⊥) → at_rank (set askers s v) t ≡ at_rank askers t
at_other [] s t v ne = refl
at_other (a ∷ askers) zero zero v ne = absurd (ne refl)
at_other (a ∷ askers) zero (suc t) v ne = refl
at_other (a ∷ askers) (suc s) zero v ne = refl
at_other (a ∷ askers) (suc s) (suc t) v ne = at_other askers s t v (λ e. ne (ap suc e))

two_cases : (s t : ℕ) → (s ≡ t) ⊎ (s ≡ t → ⊥)
two_cases s t = grind arith

pub noted_set : (askers : List (Vec ℕ Global)) (s r : ℕ) (v : Vec ℕ Global) → s < length askers → v.items ≡ at_rank askers s ++ r ∷ [] → Asks askers (set askers s v) s r
noted_set askers s r v lt e = record {
  len = length-set askers s v;
  kept = λ t x h. ⊎_elim
      (λ (i : s ≡ t). subst (λ (u : ℕ). among (at_rank (set askers s v) u) x ≡ true) i
      (ap (λ l. among l x) (at_same askers s v lt ∙ e) ∙ among_append (at_rank askers s) (r ∷ []) x
      ∙ or_left (among (at_rank askers s) x) (among (r ∷ []) x) (subst (λ (u : ℕ). among (at_rank askers u) x ≡ true) (sym i) h)))
      (λ (n : s ≡ t → ⊥). ap (λ l. among l x) (at_other askers s t v n) ∙ h)
      (two_cases s t);
  noted = λ t below h.
      let i = is_equal s t (alone s t h) in
      subst (λ (u : ℕ). among (at_rank (set askers s v) u) r ≡ true) i
      (ap (λ l. among l r) (at_same askers s v lt ∙ e) ∙ among_append (at_rank askers s) (r ∷ []) r ∙ or_right (among (at_rank askers s) r) (among (r ∷ []) r) (among_self r));
  only = λ t x h. ⊎_elim
      (λ (i : s ≡ t).
      let here : among (at_rank askers s ++ r ∷ []) x ≡ true =
      sym (ap (λ l. among l x) (at_same askers s v lt ∙ e)) ∙ subst (λ (u : ℕ). among (at_rank (set askers s v) u) x ≡ true) (sym i) h in
      ⊎_elim
      (λ (a : among (at_rank askers s) x ≡ true). inl (subst (λ (u : ℕ). among (at_rank askers u) x ≡ true) i a))
      (λ (b : among (r ∷ []) x ≡ true). inr (is_equal r x (alone r x b), subst (λ (u : ℕ). among (s ∷ []) u ≡ true) i (among_self s)))
      (either (among (at_rank askers s) x) (among (r ∷ []) x) (sym (among_append (at_rank askers s) (r ∷ []) x) ∙ here)))
      (λ (n : s ≡ t → ⊥). inl (sym (ap (λ l. among l x) (at_other askers s t v n)) ∙ h))
      (two_cases s t);
}
  where
    alone : (s t : ℕ) → among (s ∷ []) t ≡ true → eqb s t ≡ true
    alone s t h = ⊎_elim (λ a. a) (λ (b : false ≡ true). absurd (cc)) (either (eqb s t) false h)

pub at_is : (askers : List (Vec ℕ Global)) (s : ℕ) (v : Vec ℕ Global) → slice_get askers s ≡ Some v → at_rank askers s ≡ v.items
at_is [] s v h = absurd (cc)
at_is (a ∷ askers) zero v h = let e : a ≡ v = cc in ap (λ (w : Vec ℕ Global). w.items) e
at_is (a ∷ askers) (suc s) v h = at_is askers s v h

-- r was noted at s before
pub noted_already : (askers : List (Vec ℕ Global)) (s r : ℕ) → among (at_rank askers s) r ≡ true → Asks askers askers s r
noted_already askers s r h = record {
  len = refl;
  kept = λ t x a. a;
  noted = λ t below a. ⊎_elim
      (λ (e : eqb s t ≡ true). subst (λ (u : ℕ). among (at_rank askers u) r ≡ true) (is_equal s t e) h)
      (λ (b : false ≡ true). absurd (cc)) (either (eqb s t) false a);
  only = λ t x a. inl a;
}

-- nothing is to be noted
pub noted_none : (askers : List (Vec ℕ Global)) (r : ℕ) → NotesAll askers askers [] r
noted_none askers r = record { len = refl; kept = λ t x h. h; noted = λ s lt h. absurd (cc); only = λ t x h. inl h }

-- first at these ranks, then at those
pub noted_append : (before between after : List (Vec ℕ Global)) (xs ys : List ℕ) (r : ℕ) → NotesAll before between xs r → NotesAll between after ys r → NotesAll before after (xs ++ ys) r
noted_append before between after xs ys r p q = record {
  len = q.len ∙ p.len;
  kept = λ t x h. q.kept t x (p.kept t x h);
  noted = λ s lt h. ⊎_elim (λ (i : among xs s ≡ true). q.kept s r (p.noted s lt i)) (λ (i : among ys s ≡ true). q.noted s (omega (arith, lt, p.len)) i)
      (either (among xs s) (among ys s) (sym (among_append xs ys s) ∙ h));
  only = λ t x h. ⊎_elim
      (λ (i : among (at_rank between t) x ≡ true). ⊎_elim
      (λ (j : among (at_rank before t) x ≡ true). inl j)
      (λ (j : (r ≡ x) × (among xs t ≡ true)). inr (j.0, among_append xs ys t ∙ or_left (among xs t) (among ys t) j.1))
      (p.only t x i))
      (λ (i : (r ≡ x) × (among ys t ≡ true)). inr (i.0, among_append xs ys t ∙ or_right (among xs t) (among ys t) i.1))
      (q.only t x h);
}
