-- What one parameter says. What is missing or can't be read is unknown.
use Rattle.std.specs.Prelude.{ℕ, ℤ, pos, negsuc, ◌^◌, ◌==◌, Bool, true, false, not, List, [], ◌∷◌, Option, Some, None, codes, nat_lt, option_and_then, option_map, if◌then◌else◌}
use Rattle.std.specs.Str.{bytes_eq}
use Rattle.mpi_model.specs.declared.object.Object.{Object}
use Rattle.mpi_model.specs.declared.object.Object.TheVariants as objects
use Rattle.dumpi_text.specs.Value.{value_of}
use Rattle.dumpi_text.specs.declared.number.Num.{Num}
use Rattle.dumpi_text.specs.declared.value.Value.{Value}
use Rattle.dumpi_text.specs.declared.value.Value.TheVariants as values
use Rattle.comm_makings.specs.declared.calls.Color.{Color}
use Rattle.comm_makings.specs.declared.calls.Color.TheVariants as colors
use Rattle.comm_makings.specs.declared.calls.Given.{Given}
use Rattle.comm_makings.specs.declared.calls.Given.TheVariants as givens
use Rattle.comm_makings.specs.declared.calls.GroupName.{GroupName}
use Rattle.comm_makings.specs.declared.calls.GroupName.TheVariants as groups
use Rattle.comm_calls.specs.Parameters.{note_of}

-- exactly one number
abbrev pub only : List Num → Option ℤ
only [] = None
only (number ∷ []) = Some number.value
only (number ∷ other ∷ numbers) = None

-- one number: a number, or a list of exactly one
abbrev pub one_number : Value → Option ℤ
one_number (values.Number number) = Some number.value
one_number (values.Numbers numbers) = only numbers
one_number (values.Groups fields) = None

-- the number that a text is
abbrev pub number_of : List ℕ → Option ℤ
number_of text = option_and_then one_number (value_of text)

-- the values of a C `int` (MPI 4.0, 2.6.3)
abbrev pub int_of : ℤ → Option ℤ
int_of (pos n) = if nat_lt n (2 ^ 31) then Some (pos n) else None
int_of (negsuc n) = if nat_lt n (2 ^ 31) then Some (negsuc n) else None

-- a number from 0 to 2^31 - 1
abbrev pub natural_of : ℤ → Option ℕ
natural_of (pos n) = if nat_lt n (2 ^ 31) then Some n else None
natural_of (negsuc n) = None

-- whether a flag is set
abbrev pub is_set : ℤ → Bool
is_set (pos n) = not (n == 0)
is_set (negsuc n) = true

-- a rank or a number of a communicator, as a parameter's text says it
abbrev pub natural_in : Option (List ℕ) → Option ℕ
natural_in text = option_and_then (λ t. option_and_then natural_of (number_of t)) text

-- a whole number, as a parameter's text says it
abbrev pub int_in : Option (List ℕ) → Option ℤ
int_in text = option_and_then (λ t. option_and_then int_of (number_of t)) text

-- a flag, as a parameter's text says it
abbrev pub flag_in : Option (List ℕ) → Option Bool
flag_in text = option_and_then (λ t. option_map is_set (number_of t)) text

-- whether a note says that no communicator is meant
abbrev pub is_null : List ℕ → Bool
is_null text = bytes_eq (note_of text) (codes "MPI_COMM_NULL")

-- the communicator that a call names, where that is not the null one
abbrev pub comm_of : List ℕ → Option ℕ
comm_of text = if is_null text then None else option_and_then natural_of (number_of text)

-- the number of a communicator, as a parameter's text says it
abbrev pub comm_in : Option (List ℕ) → Option ℕ
comm_in text = option_and_then comm_of text

-- a communicator that is given, by a number that can be read
abbrev pub given_number : Option ℕ → Given
given_number None = givens.Unknown
given_number (Some n) = givens.Number n

-- a communicator that is given: none under the note of the null one, else its number
abbrev pub given_by : Bool → Option ℤ → Given
given_by noted None = givens.Unknown
given_by true (Some n) = givens.Null
given_by false (Some n) = given_number (natural_of n)

-- the communicator that a call gives
abbrev pub given_in : Option (List ℕ) → Given
given_in None = givens.Unknown
given_in (Some text) = given_by (is_null text) (number_of text)

-- a group, by a number that can be read
abbrev pub group_number : Option ℕ → GroupName
group_number None = groups.Unknown
group_number (Some n) = groups.Number n

-- a group: the empty one under its note, else its number
abbrev pub group_by : Bool → Option ℤ → GroupName
group_by noted None = groups.Unknown
group_by true (Some n) = groups.Empty
group_by false (Some n) = group_number (natural_of n)

-- the group that a call names or gives
abbrev pub group_in : Option (List ℕ) → GroupName
group_in None = groups.Unknown
group_in (Some text) = group_by (bytes_eq (note_of text) (codes "MPI_GROUP_EMPTY")) (number_of text)

-- a color, by its number: none where that is negative
abbrev pub color_number : ℤ → Option Color
color_number (pos n) = if nat_lt n (2 ^ 31) then Some (colors.Number n) else None
color_number (negsuc n) = Some colors.Undefined

-- a color: none under the note of MPI_UNDEFINED, else by its number
abbrev pub color_by : Bool → Option ℤ → Option Color
color_by noted None = None
color_by true (Some n) = Some colors.Undefined
color_by false (Some n) = color_number n

-- the color of a split: none by its note, and where it is negative (MPI 4.0, 7.4.2)
abbrev pub color_in : Option (List ℕ) → Option Color
color_in None = None
color_in (Some text) = color_by (bytes_eq (note_of text) (codes "MPI_UNDEFINED")) (number_of text)

-- the number beside a name
abbrev pub beside : List ℕ → List ℕ → Option ℕ
beside name text = if bytes_eq (note_of text) name then option_and_then natural_of (number_of text) else None

-- ---- windows and files

-- the note of the null window, or of the null file (MPI 4.0, 12.2.5 and 14.2.2)
abbrev pub is_no_object : Object → List ℕ → Bool
is_no_object objects.Communicator text = is_null text
is_no_object objects.Window text = bytes_eq (note_of text) (codes "MPI_WIN_NULL")
is_no_object objects.File text = bytes_eq (note_of text) (codes "MPI_FILE_NULL")

-- the window or the file of a text, where that is not the null one
abbrev pub object_of : Object → List ℕ → Option ℕ
object_of object text = if is_no_object object text then None else option_and_then natural_of (number_of text)
