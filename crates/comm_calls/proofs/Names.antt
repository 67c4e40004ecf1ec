-- Names, byte by byte.
use Rattle.std.proofs.Common.{◌≡◌, ◌≢◌, ◌&&◌, ℕ, suc, true, false, List, [], ◌∷◌, length, ap, refl, nat_eq}
use Rattle.std.specs.Str.{bytes_eq}

-- byte strings of different lengths differ
pub not_as_long : (xs ys : List ℕ) → length xs ≢ length ys → bytes_eq xs ys ≡ false
not_as_long [] [] h = absurd (h refl)
not_as_long [] (y ∷ ys) h = refl
not_as_long (x ∷ xs) [] h = refl
not_as_long (x ∷ xs) (y ∷ ys) h =
    elim (nat_eq x y) as (λ same. same && bytes_eq xs ys ≡ false) [ true ↦ not_as_long xs ys (λ e. h (ap suc e)) | false ↦ refl ]
