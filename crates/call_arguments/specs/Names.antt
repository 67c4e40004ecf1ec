-- The name that a text gives a datatype or an operation: the note of its number.
use Rattle.std.specs.Prelude.{ℕ, ◌+◌, ◌==◌, Bool, true, false, List, Option, Some, None, codes, drop, fold, length, option_and_then, option_map, take, if◌then◌else◌}
use Rattle.std.specs.List.{starts_with}
use Rattle.dumpi_text.specs.Bytes.{opening_parenthesis, closing_parenthesis, space}
use Rattle.dumpi_text.specs.Time.{is_digit}
use Rattle.dumpi_text.specs.Value.{value_of}
use Rattle.dumpi_text.specs.declared.value.Value.{Value}
use Rattle.dumpi_text.specs.declared.value.Value.TheVariants as values
use Rattle.call_arguments.specs.Places.{first_where}

-- a value is one number
abbrev pub is_one : Option Value → Bool
is_one (Some (values.Number number)) = true
is_one (Some (values.Numbers numbers)) = length numbers == 1
is_one _ = false

-- the byte is this one
abbrev pub is_byte : ℕ → ℕ → Bool
is_byte wanted byte = byte == wanted

-- whether a digit stands last, spaces aside, with one byte more
abbrev pub digit_behind : Bool → ℕ → Bool
digit_behind digit byte = if byte == space then digit else is_digit byte

-- the last byte, spaces at the end aside, is a digit
abbrev pub ends_number : List ℕ → Bool
ends_number text = fold digit_behind false text

-- what stands before the first `)`
abbrev pub note_front : List ℕ → Option (List ℕ)
note_front bytes = option_map (λ end. take end bytes) (first_where (is_byte closing_parenthesis) bytes)

-- the note whose `(` stands at this place, where it stands right behind a number
abbrev pub note_at : List ℕ → ℕ → Option (List ℕ)
note_at text at = if ends_number (take at text) then note_front (drop (at + 1) text) else None

-- the first note of a text, where it is that of a number: one of the whole value stands behind a bracket or a brace
abbrev pub note_in : List ℕ → Option (List ℕ)
note_in text = option_and_then (note_at text) (first_where (is_byte opening_parenthesis) text)

-- a name of the standard's
abbrev pub standard_name : List ℕ → Option (List ℕ)
standard_name note = if starts_with (λ a b. a == b) note (codes "MPI_") then Some note else None

-- the name of a datatype or an operation: the value is one number, and its note begins with `MPI_`
abbrev pub name_in : List ℕ → Option (List ℕ)
name_in text = if is_one (value_of text) then option_and_then standard_name (note_in text) else None
