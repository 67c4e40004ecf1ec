-- Walks over a list: what was found so far, in front of what the rest gives.
use Rattle.std.proofs.Common.{◌≡◌, ℕ, zero, suc, ◌+◌, ◌<◌, ◌++◌, Bool, false, true, cond, is_some, List, [], ◌∷◌, Option, Some, None, Vec, length, get_or, drop, option_and_then, option_map, ap, ◌∙◌, sym, refl, append_assoc}
use Rattle.std.specs.List.{slice_get}
use Rattle.std.specs.declared.alloc.Global.{Global}
use Rattle.std.proofs.lemmas.List.{at_drop_more}
use Rattle.comm_groups.specs.declared.range.RankRange.{RankRange as Ranks}
use Rattle.comm_makings.specs.Groups.{range_of, ranges_of}
use Rattle.comm_makings.specs.Here.{handle_of}
use Rattle.comm_makings.specs.Reordered.{given_places, told_before, told_here, told_ranks}
use Rattle.comm_makings.specs.declared.calls.RankRange.{RankRange}
use Rattle.comm_makings.specs.declared.here.Here.{Here}
use Rattle.comm_makings.specs.declared.view.RankView.{RankView}

joined_more : {X : Type 0} (found : List X) (x : X) (rest : Option (List X))
    → option_map (λ (l : List X). (found ++ x ∷ []) ++ l) rest ≡ option_map (λ (l : List X). found ++ l) (option_map (λ (l : List X). x ∷ l) rest)
joined_more found x None = refl
joined_more found x (Some rest) = ap Some (append_assoc found (x ∷ []) rest)

module _ (ranges : List RankRange) (i : ℕ) (d : RankRange) (below : i < length ranges) (found : List Ranks) where
  range_next : (o : Option Ranks) → range_of (get_or ranges i d) ≡ o → option_map (λ (l : List Ranks). found ++ l) (ranges_of (drop i ranges))
      ≡ option_map (λ (l : List Ranks). found ++ l) (option_and_then (λ (r : Ranks). option_map (λ (l : List Ranks). r ∷ l) (ranges_of (drop (i + 1) ranges))) o)
  range_next o is =
      ap (option_map (λ (l : List Ranks). found ++ l))
      (at_drop_more ranges_of ranges i d below
      ∙ ap (option_and_then (λ (r : Ranks). option_map (λ (l : List Ranks). r ∷ l) (ranges_of (drop (i + 1) ranges)))) is)

  pub ranges_more : (range : Ranks) → range_of (get_or ranges i d) ≡ Some range
      → option_map (λ (l : List Ranks). (found ++ range ∷ []) ++ l) (ranges_of (drop (i + 1) ranges)) ≡ option_map (λ (l : List Ranks). found ++ l) (ranges_of (drop i ranges))
  ranges_more range is = joined_more found range (ranges_of (drop (i + 1) ranges)) ∙ sym (range_next (Some range) is)

  pub ranges_end : range_of (get_or ranges i d) ≡ None → None ≡ option_map (λ (l : List Ranks). found ++ l) (ranges_of (drop i ranges))
  ranges_end is = sym (range_next None is)

module _ (views : List RankView) (all : List (Option Here)) (i : ℕ) (below : i < length all) (found : List ℕ) where
  told_next : (o : Option ℕ) → handle_of (get_or all i None) ≡ o → option_map (λ (l : List ℕ). found ++ l) (told_ranks views (drop i all))
      ≡ option_map (λ (l : List ℕ). found ++ l) (told_before views (get_or all i None) o (told_ranks views (drop (i + 1) all)))
  told_next o is =
      ap (option_map (λ (l : List ℕ). found ++ l))
      (at_drop_more (told_ranks views) all i None below
      ∙ ap (λ (h : Option ℕ). told_before views (get_or all i None) h (told_ranks views (drop (i + 1) all))) is)

  told_by : (handle : ℕ) (o : Option ℕ) → handle_of (get_or all i None) ≡ Some handle → told_here views (get_or all i None) handle ≡ o
      → option_map (λ (l : List ℕ). found ++ l) (told_ranks views (drop i all))
      ≡ option_map (λ (l : List ℕ). found ++ l) (option_and_then (λ (r : ℕ). option_map (λ (l : List ℕ). r ∷ l) (told_ranks views (drop (i + 1) all))) o)
  told_by handle o is told =
      told_next (Some handle) is
      ∙ ap (λ (h : Option ℕ). option_map (λ (l : List ℕ). found ++ l) (option_and_then (λ (r : ℕ). option_map (λ (l : List ℕ). r ∷ l) (told_ranks views (drop (i + 1) all))) h)) told

  pub told_more : (handle rank : ℕ) → handle_of (get_or all i None) ≡ Some handle → told_here views (get_or all i None) handle ≡ Some rank
      → option_map (λ (l : List ℕ). (found ++ rank ∷ []) ++ l) (told_ranks views (drop (i + 1) all)) ≡ option_map (λ (l : List ℕ). found ++ l) (told_ranks views (drop i all))
  told_more handle rank is told = joined_more found rank (told_ranks views (drop (i + 1) all)) ∙ sym (told_by handle (Some rank) is told)

  pub told_past : handle_of (get_or all i None) ≡ None
      → option_map (λ (l : List ℕ). found ++ l) (told_ranks views (drop (i + 1) all)) ≡ option_map (λ (l : List ℕ). found ++ l) (told_ranks views (drop i all))
  told_past is = sym (told_next None is)

  pub told_end : (handle : ℕ) → handle_of (get_or all i None) ≡ Some handle → told_here views (get_or all i None) handle ≡ None
      → None ≡ option_map (λ (l : List ℕ). found ++ l) (told_ranks views (drop i all))
  told_end handle is told = sym (told_by handle None is told)

module _ (all : List (Option Here)) (place i : ℕ) (below : i < length all) where
  given_next : (b : Bool) → is_some (handle_of (get_or all i None)) ≡ b
      → given_places place (drop i all) ≡ cond b (place ∷ given_places (place + 1) (drop (i + 1) all)) (given_places (place + 1) (drop (i + 1) all))
  given_next b is =
      at_drop_more (given_places place) all i None below
      ∙ ap (λ (q : Bool). cond q (place ∷ given_places (place + 1) (drop (i + 1) all)) (given_places (place + 1) (drop (i + 1) all))) is

  pub given_more : (found : List ℕ) → is_some (handle_of (get_or all i None)) ≡ true
      → (found ++ place ∷ []) ++ given_places (place + 1) (drop (i + 1) all) ≡ found ++ given_places place (drop i all)
  given_more found is =
      append_assoc found (place ∷ []) (given_places (place + 1) (drop (i + 1) all)) ∙ ap (λ (l : List ℕ). found ++ l) (sym (given_next true is))

  pub given_past : (found : List ℕ) → is_some (handle_of (get_or all i None)) ≡ false
      → found ++ given_places (place + 1) (drop (i + 1) all) ≡ found ++ given_places place (drop i all)
  given_past found is = ap (λ (l : List ℕ). found ++ l) (sym (given_next false is))

-- One more list, which is empty.
pub empty_more : (lists : List (Vec ℕ Global)) (new : Vec ℕ Global) → new.items ≡ []
    → ((handle : ℕ) (list : List ℕ) → option_map (λ (l : Vec ℕ Global). l.items) (slice_get lists handle) ≡ Some list → list ≡ [])
    → (handle : ℕ) (list : List ℕ) → option_map (λ (l : Vec ℕ Global). l.items) (slice_get (lists ++ new ∷ []) handle) ≡ Some list → list ≡ []
empty_more [] new bare each zero list e = let is : new.items ≡ list = cc in sym is ∙ bare
empty_more [] new bare each (suc handle) list e = absurd (cc)
empty_more (l ∷ lists) new bare each zero list e = each zero list e
empty_more (l ∷ lists) new bare each (suc handle) list e = empty_more lists new bare (λ h. each (suc h)) handle list e
