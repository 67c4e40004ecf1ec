-- Whether a number stands in a list that rises, found by halving.
use Rattle.std.proofs.Common.{◌≡◌, ℕ, ◌<◌, ◌≤◌, ◌⊎◌, ⊎_elim, false, List, length, get_or, sym, arith, eqb, eq-eqb, Result, Ok, Err}
use Rattle.std.specs.Prelude.{is_ok}
use Rattle.std.specs.List.{list_any}
use Rattle.std.specs.List.Sorted.{IsBinarySearchResult, IsNonDecreasing, IsPartitionPoint, IsSearchInRange}
use Rattle.std.specs.Ordering.{nat_cmp, ordering_index}
use Rattle.std.specs.declared.cmp.Ordering.TheVariants.{Less, Equal, Greater}
use Rattle.std.proofs.lemmas.Bool.Decides.{nat_tests}
use Rattle.std.proofs.lemmas.Cmp.{ranked}
use Rattle.std.proofs.lemmas.List.Folds.{list_any_at, list_any_none}

sides : (a b : ℕ) → (a < b) ⊎ (b ≤ a)
sides a b = grind arith

indices_rise : (a b n : ℕ) → a ≤ b → ordering_index (nat_cmp a n) ≤ ordering_index (nat_cmp b n)
indices_rise a b n le = grind (arith, nat_tests)

below : (a n : ℕ) → a < n → eqb a n ≡ false
below a n lt = grind (arith, nat_tests)

above : (a n : ℕ) → n < a → eqb a n ≡ false
above a n lt = grind (arith, nat_tests)

module _ (xs : List ℕ) (n : ℕ) where
  differs : (at : ℕ) → IsPartitionPoint (λ y. nat_cmp y n ≡ Less) (λ y. nat_cmp y n ≡ Greater) xs at → (j d : ℕ) → j < length xs → eqb (get_or xs j d) n ≡ false
  differs at point j d lt = ⊎_elim
      (λ (low : j < at). below (get_or xs j d) n (ranked (get_or xs j d) n Less (sym (point.0 j d (omega arith) low))))
      (λ (high : at ≤ j). above (get_or xs j d) n (ranked (get_or xs j d) n Greater (sym (point.1 j d high lt))))
      (sides j at)

  pub found_by_halves : (r : Result ℕ ℕ) → IsNonDecreasing xs → IsSearchInRange r (length xs) → IsBinarySearchResult (λ y. nat_cmp y n) xs r → is_ok r ≡ list_any (λ c. eqb c n) xs
  found_by_halves (Ok at) up within is = sym (list_any_at (λ c. eqb c n) xs at 0 within (eq-eqb (get_or xs at 0) n (ranked (get_or xs at 0) n Equal (sym (is 0)))))
  found_by_halves (Err at) up within is =
      let point = is (λ i j d le lt. indices_rise (get_or xs i d) (get_or xs j d) n (up i j d le lt)) in
      sym (list_any_none (λ c. eqb c n) xs (λ j d lt. differs at point j d lt))
