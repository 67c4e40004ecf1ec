-- Numbers of values: an optional `-`, digits, and an optional note.
use Rattle.std.specs.Prelude.{ℕ, ℤ, pos, neg_ℤ, Bool, true, false, Option, Some, None, List, [], ◌∷◌, codes, nat_lt, ◌==◌, if◌then◌else◌}
use Rattle.std.specs.List.{list_any}
use Rattle.dumpi_text.specs.Bytes.{opening_parenthesis, closing_parenthesis, minus, opening_bracket, closing_bracket}
use Rattle.dumpi_text.specs.Call.{same_bytes}
use Rattle.dumpi_text.specs.Words.{split_at}
use Rattle.dumpi_text.specs.Time.{number_of}
use Rattle.dumpi_text.specs.Tokens.{after_spaces, after_byte, digit_parts}
use Rattle.dumpi_text.specs.Stamps.{◌>>=◌}
use Rattle.dumpi_text.specs.declared.number.NumName.{NumName}
use Rattle.dumpi_text.specs.declared.number.NumName.TheVariants.{AnySource, AnyTag, ProcNull, Root, CommWorld, RequestNull, Other}
use Rattle.dumpi_text.specs.declared.number.Num.{Num}

-- whether a `-` stands in front, and what follows it
abbrev pub sign_parts : List ℕ → Bool × List ℕ
sign_parts [] = (false, [])
sign_parts (byte ∷ bytes) = if byte == minus then (true, bytes) else (false, byte ∷ bytes)

-- the integer of a sign and digits, where it is from -2^63 to 2^63 - 1
abbrev pub integer_of : Bool → List ℕ → Option ℤ
integer_of negative [] = None
integer_of false (digit ∷ digits) = if nat_lt 9223372036854775807 (number_of (digit ∷ digits)) then None else Some (pos (number_of (digit ∷ digits)))
integer_of true (digit ∷ digits) = if nat_lt 9223372036854775808 (number_of (digit ∷ digits)) then None else Some (neg_ℤ (pos (number_of (digit ∷ digits))))

-- the integer in front, and what follows its digits
unfoldable pub integer_front : List ℕ → Option (ℤ × List ℕ)
integer_front text = do
  value ← integer_of (sign_parts text).0 (digit_parts (sign_parts text).1).0
  Some (value, (digit_parts (sign_parts text).1).1)

-- the name that a note gives its number, where the note holds exactly that name
unfoldable pub name_of : List ℕ → NumName
name_of note =
    if same_bytes note (codes "MPI_ANY_SOURCE") then AnySource
    else (if same_bytes note (codes "MPI_ANY_TAG") then AnyTag
    else (if same_bytes note (codes "MPI_PROC_NULL") then ProcNull
    else (if same_bytes note (codes "MPI_ROOT") then Root
    else (if same_bytes note (codes "MPI_COMM_WORLD") then CommWorld
    else (if same_bytes note (codes "MPI_REQUEST_NULL") then RequestNull else Other)))))

-- a byte that opens a note
abbrev pub is_opening : ℕ → Bool
is_opening byte = byte == opening_parenthesis

-- a note, by what stands before its first `)`, and what follows that
abbrev pub note_in : List ℕ → Option (List ℕ) → Option (NumName × List ℕ)
note_in note None = None
note_in note (Some rest) = if list_any is_opening note then None else Some (name_of note, rest)

-- the note in front, if one stands there, and what follows it
abbrev pub note_front : List ℕ → Option (NumName × List ℕ)
note_front [] = Some (Other, [])
note_front (byte ∷ bytes) =
    if byte == opening_parenthesis then note_in (split_at closing_parenthesis bytes).0 (split_at closing_parenthesis bytes).1
    else Some (Other, byte ∷ bytes)

-- the number in front with its note, and what follows them
unfoldable pub number_front : List ℕ → Option (Num × List ℕ)
number_front text = do
  integer ← integer_front text
  note ← note_front (after_spaces integer.1)
  Some (record { value = integer.0; name = note.0 }, note.1)

-- a number and `]`, after its `[`
unfoldable pub bracketed_front : List ℕ → Option (Num × List ℕ)
bracketed_front text = do
  number ← number_front (after_spaces text)
  rest ← after_byte closing_bracket number.1
  Some (number.0, rest)

-- a number of a list: alone, or in brackets
abbrev pub number_item : List ℕ → Option (Num × List ℕ)
number_item [] = None
number_item (byte ∷ bytes) = if byte == opening_bracket then bracketed_front bytes else number_front (byte ∷ bytes)
