-- A call that names a number, of which no group goes on.
use Rattle.std.proofs.Common.{◌≡◌, ◌≢◌, ◌∙◌, ◌<◌, ℕ, ◌+◌, ◌-◌, ◌==◌, List, [], ◌∷◌, ◌++◌, Option, Some, None, cond, length, ap, sym, subst, refl, inl, inr, arith}
use Rattle.std.proofs.lemmas.Bool.{cases_eq, cond-false, cond-true, eq-eqb, ne_eqb}
use Rattle.std.proofs.lemmas.Option.{slice_get_within}
use Rattle.comm_makings.specs.declared.calls.Uses.{Uses}
use Rattle.comm_calls.specs.Uses.{AreUses, GoesOn, IsBetween, IsEnded, IsGroup, IsOpen, count_named, first_use}
use Rattle.comm_calls.proofs.Counted.{count_one}
use Rattle.comm_calls.proofs.Elements.{get_kept, get_last, get_more}
use Rattle.comm_calls.proofs.Groups.{More, between_kept, group_kept, kept, of_more, open_kept, within}

group_first : (named' changed' : ℕ → Option ℕ) (p n : ℕ) → named' p ≡ Some n → changed' p ≡ None → IsGroup named' changed' (first_use p n)
group_first named' changed' p n names still = record {
  first = names;
  last = names;
  order = omega arith;
  together = λ q low high e. (let at : q ≡ p = omega arith in let there : changed' q ≡ changed' p = ap changed' at in absurd (cc));
  count = (let many : 1 ≡ p + 1 - p = omega arith in sym (count_one named' n p names) ∙ ap (count_named named' n p) many);
}

-- where no group of its number goes on, each of them has ended
between_last : (changed changed' : ℕ → Option ℕ) (p n : ℕ) (u : Uses) → More changed changed' p None → IsEnded changed u → IsBetween changed' u (first_use p n)
between_last changed changed' p n u c e = record {
  place = e.place;
  above = e.above;
  below = within changed changed' p None e.place u.number c e.changes;
  changes = kept changed changed' p None e.place u.number c e.changes;
}

pub uses_begun : (named named' changed changed' : ℕ → Option ℕ) (p n : ℕ) (groups : List Uses) → More named named' p (Some n) → More changed changed' p None → AreUses named changed groups → IsOpen changed groups n None
    → AreUses named' changed' (groups ++ first_use p n ∷ [])
uses_begun named named' changed changed' p n groups m c uses ended = record {
  each = λ i u is. elim (get_more groups (first_use p n) i u is) [
    | inl was ↦ group_kept named named' changed changed' p (Some n) None u m c (uses.each i u was)
    | inr new ↦ subst (λ (v : Uses). IsGroup named' changed' v) (sym new.1) (group_first named' changed' p n m.here c.here)
  ];
  whole = λ q k e. elim (of_more named named' p (Some n) q k m e) [
    | inl was ↦ (let w = uses.whole q k was in record { at = w.at; group = w.group; is = get_kept groups (first_use p n ∷ []) w.at w.group w.is; same = w.same; from = w.from; to = w.to })
    | inr new ↦ record { at = length groups; group = first_use p n; is = get_last groups (first_use p n); same = (let said = new.1 in cc); from = (let at = new.0 in omega arith); to = (let at = new.0 in omega arith) }
  ];
  rising = λ i j u v h iu jv. elim (get_more groups (first_use p n) j v jv) [
    | inl was ↦ elim (get_more groups (first_use p n) i u iu) [
      | inl first ↦ uses.rising i j u v h first was
      | inr new ↦ absurd (let below = slice_get_within groups j v was in let at = new.0 in omega arith)
    ]
    | inr new ↦ elim (get_more groups (first_use p n) i u iu) [
      | inl first ↦ subst (λ (w : Uses). u.first < w.first) (sym new.1) (within named named' p (Some n) u.first u.number m (uses.each i u first).first)
      | inr both ↦ absurd (let at = new.0 in let here = both.0 in omega arith)
    ]
  ];
  apart = λ i j u v h iu jv same. elim (get_more groups (first_use p n) j v jv) [
    | inl was ↦ elim (get_more groups (first_use p n) i u iu) [
      | inl first ↦ between_kept changed changed' p None u v c (uses.apart i j u v h first was same)
      | inr new ↦ absurd (let below = slice_get_within groups j v was in let at = new.0 in omega arith)
    ]
    | inr new ↦ elim (get_more groups (first_use p n) i u iu) [
      | inl first ↦ subst (λ (w : Uses). IsBetween changed' u w) (sym new.1) (between_last changed changed' p n u c (ended i u first (same ∙ ap (λ (w : Uses). w.number) new.1)))
      | inr both ↦ absurd (let at = new.0 in let here = both.0 in omega arith)
    ]
  ];
}

-- the new group goes on
begun_on : (changed changed' : ℕ → Option ℕ) (p n : ℕ) (groups : List Uses) → More changed changed' p None → GoesOn changed' (groups ++ first_use p n ∷ []) n (length groups)
begun_on changed changed' p n groups c = record {
  group = first_use p n;
  is = get_last groups (first_use p n);
  same = refl;
  still = λ q low e. elim (of_more changed changed' p None q n c e) [
    | inl was ↦ (let below = within changed changed' p None q n c was in omega arith)
    | inr new ↦ absurd (let none = new.1 in cc)
  ];
}

-- what is known of another number's groups
open_beside : (changed : ℕ → Option ℕ) (p n k : ℕ) (groups : List Uses) (going : Option ℕ) → n ≢ k → IsOpen changed groups k going → IsOpen changed (groups ++ first_use p n ∷ []) k going
open_beside changed p n k groups None other ended = λ i u is same. elim (get_more groups (first_use p n) i u is) [
  | inl was ↦ ended i u was same
  | inr new ↦ absurd (other (sym (ap (λ (w : Uses). w.number) new.1) ∙ same))
]
open_beside changed p n k groups (Some at) other on = record { group = on.group; is = get_kept groups (first_use p n ∷ []) at on.group on.is; same = on.same; still = on.still }

pub open_begun : (changed changed' : ℕ → Option ℕ) (p n k : ℕ) (groups : List Uses) (going : Option ℕ) → More changed changed' p None → IsOpen changed groups k going
    → IsOpen changed' (groups ++ first_use p n ∷ []) k (cond (n == k) (Some (length groups)) going)
open_begun changed changed' p n k groups going c is = elim (cases_eq n k) [
  | inl same ↦ subst (λ (o : Option ℕ). IsOpen changed' (groups ++ first_use p n ∷ []) k o) (sym (cond-true (n == k) (Some (length groups)) going (eq-eqb n k same)))
      (subst (λ (j : ℕ). IsOpen changed' (groups ++ first_use p n ∷ []) j (Some (length groups))) same (begun_on changed changed' p n groups c))
  | inr other ↦ subst (λ (o : Option ℕ). IsOpen changed' (groups ++ first_use p n ∷ []) k o) (sym (cond-false (n == k) (Some (length groups)) going (ne_eqb n k other)))
      (open_beside changed' p n k groups going other (open_kept changed changed' p None groups k going c (λ e. absurd (cc)) is))
]
