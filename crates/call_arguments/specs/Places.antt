-- Where something stands in a list.
use Rattle.std.specs.Prelude.{ℕ, zero, suc, Bool, List, [], ◌∷◌, Option, Some, None, option_map, if◌then◌else◌}

-- the first place, counted from 0, of one that passes
abbrev pub first_where : {X : Type 0} → (X → Bool) → List X → Option ℕ
first_where p [] = None
first_where p (x ∷ xs) = if p x then Some zero else option_map suc (first_where p xs)
