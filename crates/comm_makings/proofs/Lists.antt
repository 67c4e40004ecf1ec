-- Elements of lists, by their places.
use Rattle.std.proofs.Common.{◌≡◌, ◌⊎◌, ℕ, zero, suc, ◌++◌, List, [], ◌∷◌, Some, All, length, get_or, take, drop, set, ap, sym, inl, inr, refl, subst}
use Rattle.std.specs.List.{slice_get}
use Rattle.std.proofs.lemmas.Option.{get_or_from_slice_get, slice_get-get_or, slice_get_within}

-- one more element
pub get_more : {X : Type 0} (xs : List X) (x : X) (k : ℕ) (y : X) → slice_get (xs ++ x ∷ []) k ≡ Some y → (slice_get xs k ≡ Some y) ⊎ ((k ≡ length xs) × (y ≡ x))
get_more [] x zero y e = inr (refl, cc)
get_more [] x (suc k) y e = absurd (cc)
get_more (a ∷ xs) x zero y e = inl e
get_more (a ∷ xs) x (suc k) y e = elim (get_more xs x k y e) [ inl h ↦ inl h | inr h ↦ inr (ap suc h.0, h.1) ]

pub get_keep : {X : Type 0} (xs ys : List X) (k : ℕ) (y : X) → slice_get xs k ≡ Some y → slice_get (xs ++ ys) k ≡ Some y
get_keep [] ys k y e = absurd (cc)
get_keep (a ∷ xs) ys zero y e = e
get_keep (a ∷ xs) ys (suc k) y e = get_keep xs ys k y e

pub get_last : {X : Type 0} (xs : List X) (x : X) → slice_get (xs ++ x ∷ []) (length xs) ≡ Some x
get_last [] x = refl
get_last (a ∷ xs) x = get_last xs x

-- another element at one place
pub get_set : {X : Type 0} (xs : List X) (i : ℕ) (v : X) (k : ℕ) (y : X) → slice_get (set xs i v) k ≡ Some y → (slice_get xs k ≡ Some y) ⊎ ((k ≡ i) × (y ≡ v))
get_set [] i v k y e = inl e
get_set (a ∷ xs) zero v zero y e = inr (refl, cc)
get_set (a ∷ xs) zero v (suc k) y e = inl e
get_set (a ∷ xs) (suc i) v zero y e = inl e
get_set (a ∷ xs) (suc i) v (suc k) y e = elim (get_set xs i v k y e) [ inl h ↦ inl h | inr h ↦ inr (ap suc h.0, h.1) ]

pub get_take : {X : Type 0} (n : ℕ) (xs : List X) (k : ℕ) (y : X) → slice_get (take n xs) k ≡ Some y → slice_get xs k ≡ Some y
get_take zero [] k y e = e
get_take zero (a ∷ xs) k y e = absurd (cc)
get_take (suc n) [] k y e = e
get_take (suc n) (a ∷ xs) zero y e = e
get_take (suc n) (a ∷ xs) (suc k) y e = get_take n xs k y e

pub get_drop : {X : Type 0} (n : ℕ) (xs : List X) (k : ℕ) (y : X) → slice_get (drop n xs) k ≡ Some y → (i : ℕ) × (slice_get xs i ≡ Some y)
get_drop zero [] k y e = (k, e)
get_drop zero (a ∷ xs) k y e = (k, e)
get_drop (suc n) [] k y e = (k, e)
get_drop (suc n) (a ∷ xs) k y e = let r = get_drop n xs k y e in (suc r.0, r.1)

-- what holds of all elements holds of the one at a place
pub All-slice_get : {X : Type 0} (P : X → Type 0) (xs : List X) (k : ℕ) (x : X) → All P xs → slice_get xs k ≡ Some x → P x
All-slice_get P xs k x all e = subst P (get_or_from_slice_get xs k x x e) (all k x (slice_get_within xs k x e))

pub All-from_slice_get : {X : Type 0} (P : X → Type 0) (xs : List X) → ((k : ℕ) (x : X) → slice_get xs k ≡ Some x → P x) → All P xs
All-from_slice_get P xs f = λ k d below. f k (get_or xs k d) (slice_get-get_or xs k d below)

-- two lists, one behind the other
pub get_join : {X : Type 0} (xs ys : List X) (k : ℕ) (y : X) → slice_get (xs ++ ys) k ≡ Some y → (slice_get xs k ≡ Some y) ⊎ ((i : ℕ) × (slice_get ys i ≡ Some y))
get_join [] ys k y e = inr (k, e)
get_join (x ∷ xs) ys zero y e = inl e
get_join (x ∷ xs) ys (suc k) y e = get_join xs ys k y e

-- what holds of each of a list and of one more
pub each_more : {X : Type 0} (P : X → Type 0) (xs : List X) (x : X) → ((at : ℕ) (y : X) → slice_get xs at ≡ Some y → P y) → P x
    → (at : ℕ) (y : X) → slice_get (xs ++ x ∷ []) at ≡ Some y → P y
each_more P xs x each here at y e = elim (get_more xs x at y e) [ inl before ↦ each at y before | inr is ↦ subst P (sym is.1) here ]
