-- The first element that passes a test.
use Rattle.std.proofs.Common.{◌≡◌, ℕ, zero, suc, ◌<◌, Bool, true, false, List, [], ◌∷◌, Some, None, length, get_or, refl, arith}
use Rattle.std.specs.Prelude.{find, slice_get}

some_is : {X : Type 0} (x y : X) → Some x ≡ Some y → x ≡ y
some_is x y h = cc

module _ {X : Type 0} (p : X → Bool) where
  -- the element at a place, where it passes and none before it does
  pub find_by : (xs : List X) (at : ℕ) (x d : X) → slice_get xs at ≡ Some x → p x ≡ true → ((j : ℕ) → j < at → p (get_or xs j d) ≡ false) → find p xs ≡ Some x
  find_by [] at x d is pass before = absurd (cc)
  find_by (y ∷ ys) zero x d is pass before = let same : y ≡ x = some_is y x is in rw (same, pass) refl
  find_by (y ∷ ys) (suc at) x d is pass before =
      let first : p y ≡ false = before zero (omega arith) in
      rw first (find_by ys at x d is pass (λ j lt. before (suc j) (omega arith)))

  pub find_none : (xs : List X) (d : X) → ((j : ℕ) → j < length xs → p (get_or xs j d) ≡ false) → find p xs ≡ None
  find_none [] d fail = refl
  find_none (y ∷ ys) d fail =
      let first : p y ≡ false = fail zero (omega arith) in
      rw first (find_none ys d (λ j lt. fail (suc j) (omega arith)))
