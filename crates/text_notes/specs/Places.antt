-- Where something stands in a list.
use Rattle.std.specs.Prelude.{ℕ, zero, suc, Bool, List, [], ◌∷◌, Option, Some, None, option_map, if◌then◌else◌}
use Rattle.std.specs.Str.{bytes_eq}
use Rattle.text_notes.specs.Noted.{UnreadParts}

-- the first place, counted from 0, of one that passes
abbrev pub first_where : {X : Type 0} → (X → Bool) → List X → Option ℕ
first_where p [] = None
first_where p (x ∷ xs) = if p x then Some zero else option_map suc (first_where p xs)

-- a function of this name
abbrev pub is_named : List ℕ → UnreadParts → Bool
is_named name f = bytes_eq f.name name

-- where the function of a name stands
abbrev pub place_of : List ℕ → List UnreadParts → Option ℕ
place_of name functions = first_where (is_named name) functions
