-- What stands at the places of a list with one more.
use Rattle.std.proofs.Common.{◌≡◌, ℕ, zero, suc, List, [], ◌∷◌, ◌++◌, Some, length, refl}
use Rattle.std.specs.List.{slice_get}

pub pushed : {X : Type 0} (xs : List X) (x : X) → slice_get (xs ++ x ∷ []) (length xs) ≡ Some x
pushed [] x = refl
pushed (y ∷ xs) x = pushed xs x

pub stayed : {X : Type 0} (xs : List X) (x : X) (k : ℕ) (y : X) → slice_get xs k ≡ Some y → slice_get (xs ++ x ∷ []) k ≡ Some y
stayed [] x k y e = absurd (cc)
stayed (z ∷ xs) x zero y e = e
stayed (z ∷ xs) x (suc k) y e = stayed xs x k y e
