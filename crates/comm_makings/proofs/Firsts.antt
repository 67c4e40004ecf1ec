-- The making call of the smallest member, one member after the other.
use Rattle.std.proofs.Common.{◌≡◌, ◌<◌, ◌≤◌, ◌+◌, ◌++◌, ◌∙◌, ℕ, Bool, true, false, List, [], ◌∷◌, Option, Some, None, cond, length, get_or, take, ap, sym, subst, refl, inl, inr, arith, nat_lt}
use Rattle.std.proofs.lemmas.Bool.Decides.{nat_tests}
use Rattle.std.proofs.lemmas.Grind.{common_steps}
use Rattle.std.proofs.lemmas.List.{take_more}
use Rattle.std.proofs.lemmas.Option.{same_Some}
use Rattle.comm_makings.specs.Made.{IsFirst, IsFirstOf, NoneReturned, returned_at, smaller}
use Rattle.comm_makings.specs.declared.here.Here.{Here}
use Rattle.comm_makings.proofs.Lists.{get_keep, get_last, get_more}

pub first_none : (all : List (Option Here)) → NoneReturned [] all
first_none all = record { none = λ at place e. absurd (cc) }

less_by : (a b : ℕ) → nat_lt a b ≡ true → a ≤ b
less_by a b e = grind (arith, nat_tests, common_steps)

more_by : (a b : ℕ) → nat_lt a b ≡ false → b ≤ a
more_by a b e = grind (arith, nat_tests, common_steps)

module _ (places : List ℕ) (all : List (Option Here)) (place : ℕ) where
  -- none of the places so far, and not this one
  none_more : NoneReturned places all → returned_at all place ≡ None → NoneReturned (places ++ place ∷ []) all
  none_more none here = record {
    none = λ at other e. elim (get_more places place at other e) [
      | inl before ↦ none.none at other before
      | inr is ↦ ap (returned_at all) is.1 ∙ here
    ];
  }

  -- this one alone
  one_more : (here : Here) → NoneReturned places all → returned_at all place ≡ Some here → IsFirst (places ++ place ∷ []) all here
  one_more here none is = record {
    at = length places;
    place = place;
    chosen = get_last places place;
    returned = is;
    least = λ other p there e f. elim (get_more places place other p e) [
      | inl before ↦ absurd (let bad : None ≡ Some there = sym (none.none other p before) ∙ f in cc)
      | inr last ↦
          let same : here ≡ there = same_Some here there (sym is ∙ ap (returned_at all) (sym last.1) ∙ f) in
          let rank : here.rank ≡ there.rank = ap (λ (h : Here). h.rank) same in
          omega arith
    ];
  }

  -- the one so far
  kept_more : (here : Here) → IsFirst places all here → ((there : Here) → returned_at all place ≡ Some there → here.rank ≤ there.rank) → IsFirst (places ++ place ∷ []) all here
  kept_more here first most = record {
    at = first.at;
    place = first.place;
    chosen = get_keep places (place ∷ []) first.at first.place first.chosen;
    returned = first.returned;
    least = λ other p there e f. elim (get_more places place other p e) [
      | inl before ↦ first.least other p there before f
      | inr last ↦ most there (ap (returned_at all) (sym last.1) ∙ f)
    ];
  }

  -- this one before the one so far
  new_more : (one here : Here) → IsFirst places all one → returned_at all place ≡ Some here → here.rank ≤ one.rank → IsFirst (places ++ place ∷ []) all here
  new_more one here first is less = record {
    at = length places;
    place = place;
    chosen = get_last places place;
    returned = is;
    least = λ other p there e f. elim (get_more places place other p e) [
      | inl before ↦ (let most : one.rank ≤ there.rank = first.least other p there before f in omega arith)
      | inr last ↦
          let same : here ≡ there = same_Some here there (sym is ∙ ap (returned_at all) (sym last.1) ∙ f) in
          let rank : here.rank ≡ there.rank = ap (λ (h : Here). h.rank) same in
          omega arith
    ];
  }

  by_test : (one here : Here) (b : Bool) → nat_lt here.rank one.rank ≡ b → IsFirst places all one → returned_at all place ≡ Some here
      → IsFirstOf (places ++ place ∷ []) all (cond b (Some here) (Some one))
  by_test one here true e first is = new_more one here first is (less_by here.rank one.rank e)
  by_test one here false e first is = kept_more one first (λ there f.
      let same : here ≡ there = same_Some here there (sym is ∙ f) in
      let rank : here.rank ≡ there.rank = ap (λ (h : Here). h.rank) same in
      let most : one.rank ≤ here.rank = more_by here.rank one.rank e in
      omega arith)

  by_case : (first now : Option Here) → IsFirstOf places all first → returned_at all place ≡ now → IsFirstOf (places ++ place ∷ []) all (smaller first now)
  by_case None None is here = none_more is here
  by_case None (Some now) is here = one_more now is here
  by_case (Some one) None is here = kept_more one is (λ there f. absurd (let bad : None ≡ Some there = sym here ∙ f in cc))
  by_case (Some one) (Some now) is here = by_test one now (nat_lt now.rank one.rank) refl is here

pub first_more : (places : List ℕ) (all : List (Option Here)) (i : ℕ) (first now : Option Here) → i < length places → IsFirstOf (take i places) all first
    → now ≡ returned_at all (get_or places i 0) → IsFirstOf (take (i + 1) places) all (smaller first now)
first_more places all i first now below is here =
    subst (λ (l : List ℕ). IsFirstOf l all (smaller first now)) (sym (take_more places i 0 below)) (by_case (take i places) all (get_or places i 0) first now is (sym here))
