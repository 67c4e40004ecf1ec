-- The element at a place of a list that was changed.
use Rattle.std.proofs.Common.{◌≡◌, ◌≢◌, ◌<◌, ◌⊎◌, ℕ, zero, suc, List, [], ◌∷◌, ◌++◌, Some, length, ap, refl, inl, inr, arith}
use Rattle.std.specs.List.{slice_get, slice_set}

-- what stands in a list with one more stood there, or is the one
pub get_more : {X : Type 0} (xs : List X) (x : X) (i : ℕ) (v : X) → slice_get (xs ++ x ∷ []) i ≡ Some v
    → (slice_get xs i ≡ Some v) ⊎ ((i ≡ length xs) × (v ≡ x))
get_more [] x zero v e = inr (refl, cc)
get_more [] x (suc i) v e = absurd (cc)
get_more (y ∷ ys) x zero v e = inl e
get_more (y ∷ ys) x (suc i) v e = elim (get_more ys x i v e) [ inl h ↦ inl h | inr h ↦ inr (omega (arith, h.0), h.1) ]

pub get_kept : {X : Type 0} (xs ys : List X) (i : ℕ) (v : X) → slice_get xs i ≡ Some v → slice_get (xs ++ ys) i ≡ Some v
get_kept [] ys i v e = absurd (cc)
get_kept (x ∷ xs) ys zero v e = e
get_kept (x ∷ xs) ys (suc i) v e = get_kept xs ys i v e

pub get_last : {X : Type 0} (xs : List X) (x : X) → slice_get (xs ++ x ∷ []) (length xs) ≡ Some x
get_last [] x = refl
get_last (y ∷ ys) x = get_last ys x

pub get_below : {X : Type 0} (xs ys : List X) (i : ℕ) → i < length xs → slice_get (xs ++ ys) i ≡ slice_get xs i
get_below [] ys i h = absurd (omega arith)
get_below (x ∷ xs) ys zero h = refl
get_below (x ∷ xs) ys (suc i) h = get_below xs ys i (omega arith)

pub get_set_other : {X : Type 0} (xs : List X) (i j : ℕ) (y : X) → j ≢ i → slice_get (slice_set xs i y) j ≡ slice_get xs j
get_set_other [] i j y h = refl
get_set_other (x ∷ xs) zero zero y h = absurd (h refl)
get_set_other (x ∷ xs) zero (suc j) y h = refl
get_set_other (x ∷ xs) (suc i) zero y h = refl
get_set_other (x ∷ xs) (suc i) (suc j) y h = get_set_other xs i j y (λ e. h (ap suc e))

pub get_set_same : {X : Type 0} (xs : List X) (i : ℕ) (y v : X) → slice_get xs i ≡ Some v → slice_get (slice_set xs i y) i ≡ Some y
get_set_same [] i y v e = absurd (cc)
get_set_same (x ∷ xs) zero y v e = refl
get_set_same (x ∷ xs) (suc i) y v e = get_set_same xs i y v e
