-- The call of the smallest member that makes a window or a file, one member after the other.
use Rattle.std.proofs.Common.{◌≡◌, ◌≤◌, ◌++◌, ◌∙◌, ℕ, Bool, true, false, List, [], ◌∷◌, Option, Some, None, All, cond, length, ap, sym, subst, refl, inl, inr, arith, nat_lt}
use Rattle.std.specs.List.{slice_get}
use Rattle.std.proofs.lemmas.Bool.Decides.{nat_tests}
use Rattle.std.proofs.lemmas.Grind.{common_steps}
use Rattle.std.proofs.lemmas.Option.{same_Some}
use Rattle.comm_makings.specs.ObjectMakings.{HasMaker, IsFirstHere, IsOneMakingOf, IsSmallest, returned_here, smaller_here}
use Rattle.comm_makings.specs.declared.calls.ObjectMaker.{ObjectMaker}
use Rattle.comm_makings.specs.declared.objects.ObjectHere.{ObjectHere}
use Rattle.comm_makings.proofs.Lists.{All-slice_get, get_keep, get_last, get_more}

pub no_here : IsFirstHere [] None
no_here at here e back = absurd (cc)

less_by : (a b : ℕ) → nat_lt a b ≡ true → a ≤ b
less_by a b e = grind (arith, nat_tests, common_steps)

more_by : (a b : ℕ) → nat_lt a b ≡ false → b ≤ a
more_by a b e = grind (arith, nat_tests, common_steps)

-- what a call is that returned
is_back : (now : Option ObjectHere) (here : ObjectHere) → returned_here now ≡ Some here → (now ≡ Some here) × (here.returned ≡ true)
is_back None here e = absurd (cc)
is_back (Some one) here e = by_test one.returned refl e
  where
    by_test : (b : Bool) → one.returned ≡ b → cond b (Some one) None ≡ Some here → (Some one ≡ Some here) × (here.returned ≡ true)
    by_test false r e = absurd (cc)
    by_test true r e = (e, ap (λ (h : ObjectHere). h.returned) (sym (same_Some one here e)) ∙ r)

-- a call that isn't there, or didn't return
not_back : (now : Option ObjectHere) (there : ObjectHere) → returned_here now ≡ None → now ≡ Some there → there.returned ≡ true → ⊥
not_back now there e is back =
    let bad : Some there ≡ None = sym (ap returned_here is ∙ ap (λ (b : Bool). cond b (Some there) None) back) ∙ e in
    absurd (cc)

module _ (all : List (Option ObjectHere)) (now : Option ObjectHere) where
  none_more : IsFirstHere all None → ((there : ObjectHere) → now ≡ Some there → there.returned ≡ true → ⊥) → IsFirstHere (all ++ now ∷ []) None
  none_more none not at here e back = elim (get_more all now at (Some here) e) [
    | inl before ↦ none at here before back
    | inr last ↦ not here (sym last.1) back
  ]

  kept_more : (one : ObjectHere) → IsSmallest all one → ((there : ObjectHere) → now ≡ Some there → there.returned ≡ true → one.rank ≤ there.rank) → IsSmallest (all ++ now ∷ []) one
  kept_more one first most = record {
    at = first.at;
    here = get_keep all (now ∷ []) first.at (Some one) first.here;
    back = first.back;
    least = λ other there e back. elim (get_more all now other (Some there) e) [
      | inl before ↦ first.least other there before back
      | inr last ↦ most there (sym last.1) back
    ];
  }

  new_more : (here : ObjectHere) → now ≡ Some here → here.returned ≡ true → ((other : ℕ) (there : ObjectHere) → slice_get all other ≡ Some (Some there) → there.returned ≡ true → here.rank ≤ there.rank)
      → IsSmallest (all ++ now ∷ []) here
  new_more here is back most = record {
    at = length all;
    here = get_last all now ∙ ap Some is;
    back = back;
    least = λ other there e r. elim (get_more all now other (Some there) e) [
      | inl before ↦ most other there before r
      | inr last ↦
          let same : here ≡ there = same_Some here there (sym is ∙ sym last.1) in
          let rank : here.rank ≡ there.rank = ap (λ (h : ObjectHere). h.rank) same in
          omega arith
    ];
  }

  by_test : (one here : ObjectHere) (b : Bool) → nat_lt here.rank one.rank ≡ b → IsSmallest all one → now ≡ Some here → here.returned ≡ true
      → IsFirstHere (all ++ now ∷ []) (cond b (Some here) (Some one))
  by_test one here true e first is back = new_more here is back (λ other there f r.
      let most : one.rank ≤ there.rank = first.least other there f r in
      let less : here.rank ≤ one.rank = less_by here.rank one.rank e in
      omega arith)
  by_test one here false e first is back = kept_more one first (λ there f r.
      let same : here ≡ there = same_Some here there (sym is ∙ f) in
      let rank : here.rank ≡ there.rank = ap (λ (h : ObjectHere). h.rank) same in
      let most : one.rank ≤ here.rank = more_by here.rank one.rank e in
      omega arith)

  by_case : (first r : Option ObjectHere) → returned_here now ≡ r → IsFirstHere all first → IsFirstHere (all ++ now ∷ []) (smaller_here first r)
  by_case None None e none = none_more none (λ there is back. not_back now there e is back)
  by_case None (Some here) e none =
      let is = is_back now here e in
      new_more here is.0 is.1 (λ other there f r. absurd (none other there f r))
  by_case (Some one) None e first = kept_more one first (λ there is back. absurd (not_back now there e is back))
  by_case (Some one) (Some here) e first =
      let is = is_back now here e in
      by_test one here (nat_lt here.rank one.rank) refl first is.0 is.1

  pub here_more : (first : Option ObjectHere) → IsFirstHere all first → IsFirstHere (all ++ now ∷ []) (smaller_here first (returned_here now))
  here_more first is = by_case first (returned_here now) refl is

-- No call returned, so that they are no making.
pub none_one : (all : List (Option ObjectHere)) → IsFirstHere all None → IsOneMakingOf all None
none_one all none first making = none making.smallest.at first making.smallest.here making.smallest.back

-- They differ in their functions.
pub other_one : (all : List (Option ObjectHere)) (here : ObjectHere) → IsSmallest all here → (All (HasMaker here.maker) all → ⊥) → IsOneMakingOf all None
other_one all here smallest not first making =
    let same : here.maker ≡ first.maker = All-slice_get (HasMaker first.maker) all smallest.at (Some here) making.alike smallest.here in
    not (subst (λ (m : ObjectMaker). All (HasMaker m) all) (sym same) making.alike)
