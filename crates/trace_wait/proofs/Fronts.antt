-- What some element of a longer front of a list meets.
use Rattle.std.proofs.Common.{◌≡◌, ℕ, ◌+◌, ◌<◌, Bool, true, false, ◌||◌, List, refl, sym, ◌∙◌, ap, take, get_or, length}
use Rattle.std.specs.List.{list_any}
use Rattle.std.proofs.lemmas.List.Folds.{list_any_more}

-- one element more of a list
pub any_more : {X : Type 0} (f : X → Bool) (xs : List X) (i : ℕ) (d : X) (now after : Bool) → i < length xs →
    now ≡ list_any f (take i xs) → after ≡ (f (get_or xs i d) || now) → after ≡ list_any f (take (i + 1) xs)
any_more f xs i d now after lt h k =
    k ∙ ap (λ b. f (get_or xs i d) || b) h ∙ turned (f (get_or xs i d)) (list_any f (take i xs)) ∙ sym (list_any_more f xs i d lt)
  where
    turned : (a b : Bool) → (a || b) ≡ (b || a)
    turned true true = refl
    turned true false = refl
    turned false true = refl
    turned false false = refl
