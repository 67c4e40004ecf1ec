-- The counts that a value tells: numbers from 0 on.
use Rattle.std.specs.Prelude.{ℕ, ℤ, pos, negsuc, ◌==◌, ◌||◌, Bool, List, [], ◌∷◌, Option, Some, None, is_some, length, map, unwrap_or, if◌then◌else◌}
use Rattle.std.specs.List.{list_all}
use Rattle.dumpi_text.specs.declared.number.Num.{Num}
use Rattle.dumpi_text.specs.declared.value.Value.{Value}
use Rattle.dumpi_text.specs.declared.value.Value.TheVariants as values

-- an integer from 0 on
abbrev pub natural_of : ℤ → Option ℕ
natural_of (pos n) = Some n
natural_of (negsuc n) = None

-- a number is from 0 on
abbrev pub is_natural : Num → Bool
is_natural number = is_some (natural_of number.value)

-- the number, where it is from 0 on
abbrev pub magnitude : Num → ℕ
magnitude number = unwrap_or (natural_of number.value) 0

-- the counts, where all of them are from 0 on
abbrev pub naturals : List Num → Option (List ℕ)
naturals numbers = if list_all is_natural numbers then Some (map magnitude numbers) else None

-- the counts of a value: a list, or one number alone, where a list isn't asked for
abbrev pub counts_in : Bool → Option Value → Option (List ℕ)
counts_in list (Some (values.Number number)) = naturals (number ∷ [])
counts_in list (Some (values.Numbers numbers)) = if list || length numbers == 1 then naturals numbers else None
counts_in list _ = None
