-- Two elements of a list that pass a test.
use Rattle.std.proofs.Common.{◌≡◌, ℕ, zero, suc, ◌<◌, ◌||◌, Bool, true, false, List, [], ◌∷◌, length, get_or, refl, arith, Some, rules}
use Rattle.std.specs.Prelude.{find}
use Rattle.std.proofs.lemmas.List.Folds.{list_any_at}
use Rattle.std.proofs.lemmas.List.Sorted.{IsPermutation-sym}
use Rattle.std.proofs.lemmas.Map.Keys.{IsDistinct-IsPermutation}
use Rattle.std.specs.List.{AllByRecursion, IsDistinct, list_any}
use Rattle.std.specs.List.Sorted.{IsPermutation}
use Rattle.mpi_model.specs.Communicators.{has_pair}
use Rattle.mpi_model.proofs.Communicators.{or_false}

or_right : (a b : Bool) → b ≡ true → (a || b) ≡ true
or_right true b h = refl
or_right false b h = h

or_left : (a b : Bool) → a ≡ true → (a || b) ≡ true
or_left true b h = refl
or_left false b h = cc

module _ {X : Type 0} (e : X → X → Bool) where
  -- two places whose elements pass make a pair
  pub pair_at : (xs : List X) (i j : ℕ) (d : X) → i < j → j < length xs → e (get_or xs i d) (get_or xs j d) ≡ true → has_pair e xs ≡ true
  pair_at [] i j d lt in_range pass = absurd (omega arith)
  pair_at (x ∷ xs) i zero d lt in_range pass = absurd (omega arith)
  pair_at (x ∷ xs) zero (suc j) d lt in_range pass = or_left (list_any (e x) xs) (has_pair e xs) (list_any_at (e x) xs j d (omega arith) pass)
  pair_at (x ∷ xs) (suc i) (suc j) d lt in_range pass = or_right (list_any (e x) xs) (has_pair e xs) (pair_at xs i j d (omega arith) (omega arith) pass)

  none_at : (x : X) (xs : List X) → ((j : ℕ) (d : X) → j < length xs → e x (get_or xs j d) ≡ false) → list_any (e x) xs ≡ false
  none_at x [] fail = refl
  none_at x (y ∷ ys) fail = let first : e x y ≡ false = fail zero y (omega arith) in rw (first, none_at x ys (λ j d lt. fail (suc j) d (omega arith))) refl

  -- no two places do
  pub pair_free : (xs : List X) → ((i j : ℕ) (d : X) → i < j → j < length xs → e (get_or xs i d) (get_or xs j d) ≡ false) → has_pair e xs ≡ false
  pair_free [] fail = refl
  pair_free (x ∷ xs) fail =
      rw (none_at x xs (λ j d lt. fail zero (suc j) d (omega arith) (omega arith)), pair_free xs (λ i j d lt in_range. fail (suc i) (suc j) d (omega arith) (omega arith))) refl

  pub free_pair : (xs : List X) → has_pair e xs ≡ false → (i j : ℕ) (d : X) → i < j → j < length xs → e (get_or xs i d) (get_or xs j d) ≡ false
  free_pair xs free i j d lt in_range = step (e (get_or xs i d) (get_or xs j d)) refl
    where
      step : (b : Bool) → e (get_or xs i d) (get_or xs j d) ≡ b → e (get_or xs i d) (get_or xs j d) ≡ false
      step true is = let pair : has_pair e xs ≡ true = pair_at xs i j d lt in_range is in cc
      step false is = is

  all_apart : (x : X) (xs : List X) → list_any (e x) xs ≡ false → AllByRecursion (λ y. e x y ≡ false) xs
  all_apart x [] h = search rules
  all_apart x (y ∷ ys) h = let parts = or_false (e x y) (list_any (e x) ys) h in (parts.0, all_apart x ys parts.1)

  distinct_of : (xs : List X) → has_pair e xs ≡ false → IsDistinct e xs
  unfolding IsDistinct
  distinct_of [] h = search rules
  distinct_of (x ∷ xs) h = let parts = or_false (list_any (e x) xs) (has_pair e xs) h in (all_apart x xs parts.0, distinct_of xs parts.1)

  none_of : (x : X) (xs : List X) → AllByRecursion (λ y. e x y ≡ false) xs → list_any (e x) xs ≡ false
  none_of x [] h = refl
  none_of x (y ∷ ys) h = rw (h.0, none_of x ys h.1) refl

  free_of : (xs : List X) → IsDistinct e xs → has_pair e xs ≡ false
  unfolding IsDistinct
  free_of [] h = refl
  free_of (x ∷ xs) h = rw (none_of x xs h.0, free_of xs h.1) refl

  module _ (flips : (x y : X) → e x y ≡ e y x) where
    free_still : (xs ys : List X) → IsPermutation xs ys → has_pair e xs ≡ false → has_pair e ys ≡ false
    free_still xs ys same free = free_of ys (IsDistinct-IsPermutation e flips xs ys same (distinct_of xs free))

    -- the order doesn't matter
    pub has_pair-IsPermutation : (xs ys : List X) → IsPermutation xs ys → has_pair e xs ≡ has_pair e ys
    has_pair-IsPermutation xs ys same = step (has_pair e xs) (has_pair e ys) refl refl
      where
        step : (a b : Bool) → has_pair e xs ≡ a → has_pair e ys ≡ b → has_pair e xs ≡ has_pair e ys
        step true true p q = cc
        step false false p q = cc
        step false true p q = let free : has_pair e ys ≡ false = free_still xs ys same p in cc
        step true false p q = let free : has_pair e xs ≡ false = free_still ys xs (IsPermutation-sym xs ys same) q in cc

  -- where each two that pass a second test are a pair of the first, `find` can't find another
  pub only : (p : X → Bool) → ((x y : X) → p x ≡ true → p y ≡ true → e x y ≡ true)
      → (xs : List X) (i : ℕ) (d : X) → has_pair e xs ≡ false → i < length xs → p (get_or xs i d) ≡ true → find p xs ≡ Some (get_or xs i d)
  only p both [] i d free lt pass = absurd (omega arith)
  only p both (x ∷ xs) zero d free lt pass = rw pass refl
  only p both (x ∷ xs) (suc i) d free lt pass = step (p x) refl (λ rest. only p both xs i d rest (omega arith) pass)
    where
      step : (b : Bool) → p x ≡ b → (has_pair e xs ≡ false → find p xs ≡ Some (get_or xs i d)) → find p (x ∷ xs) ≡ Some (get_or xs i d)
      step true is later =
          let pair : has_pair e (x ∷ xs) ≡ true = pair_at (x ∷ xs) zero (suc i) d (omega arith) lt (both x (get_or xs i d) is pass) in
          absurd (cc)
      step false is later =
          let parts = or_false (list_any (e x) xs) (has_pair e xs) free in
          rw is (later parts.1)
