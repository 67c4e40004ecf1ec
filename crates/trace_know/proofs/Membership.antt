-- What a list contains, from its front on.
use Rattle.std.proofs.Common.{◌≡◌, ℕ, zero, suc, ◌<◌, List, ◌∷◌, length, refl, ◌⊎◌, inl, inr, arith}
use Rattle.std.specs.Prelude.{Contains, slice_index_or}

pub here : {X : Type 0} (x : X) (xs : List X) → Contains (x ∷ xs) x
here x xs = (0, omega arith, refl)

pub there : {X : Type 0} (y x : X) (xs : List X) → Contains xs x → Contains (y ∷ xs) x
there y x xs h = (suc h.0, omega (arith, h.1), h.2)

split_at : {X : Type 0} (y x : X) (xs : List X) (k : ℕ) → k < length (y ∷ xs) → slice_index_or (y ∷ xs) k x ≡ x → (y ≡ x) ⊎ Contains xs x
split_at y x xs zero l e = inl e
split_at y x xs (suc k) l e = inr (k, omega arith, e)

pub split : {X : Type 0} (y x : X) (xs : List X) → Contains (y ∷ xs) x → (y ≡ x) ⊎ Contains xs x
split y x xs h = split_at y x xs h.0 h.1 h.2
