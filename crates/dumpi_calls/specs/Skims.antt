-- What lists tell, item by item: of a group's fields of one name the first counts.
use Rattle.std.specs.Prelude.{◌≡◌, ◌⊎◌, ℕ, ℤ, List, ◌∷◌, ◌++◌, map, Option, Some, None, codes, option_map, if◌then◌else◌}
use Rattle.std.specs.Str.{bytes_eq}
use Rattle.mpi_model.specs.declared.told.Told.{Told}
use Rattle.dumpi_text.specs.Bytes.{closing_brace}
use Rattle.dumpi_text.specs.Items.{field_item, group_item, items_front}
use Rattle.dumpi_text.specs.Number.{number_item}
use Rattle.dumpi_text.specs.declared.group.Field.{Field}
use Rattle.dumpi_text.specs.declared.number.Num.{Num}
use Rattle.dumpi_text.specs.declared.value.Value.{Value}
use Rattle.dumpi_calls.specs.Outcomes.{first_number, told_from, told_of}
use Rattle.dumpi_calls.specs.Readings.{all_numbers, requests_of}
use Rattle.dumpi_calls.specs.declared.skim.Seen.{Seen}

-- A text begins with the field of this word and this number, and then comes the rest.
abbrev pub HasField : List ℕ → List ℕ → Num → List ℕ → Type 0
HasField text word number rest = field_item text ≡ Some (record { word = word; number = number }, rest)

-- A group ends here, or behind one field more, which says that there was no error, and then comes the rest.
abbrev pub EndsFields : List ℕ → List ℕ → Type 0
EndsFields text rest = (text ≡ closing_brace ∷ rest) ⊎ (text ≡ codes ", error=0}" ++ rest)

-- the number of the first field of a name, with one field more
abbrev pub number_with : List ℕ → Option Num → Field → Option Num
number_with word (Some number) field = Some number
number_with word None field = if bytes_eq field.word word then Some field.number else None

-- the number that was found, or else that of the first such field of these
abbrev pub number_or : List ℕ → Option Num → List Field → Option Num
number_or word (Some number) fields = Some number
number_or word None fields = first_number word fields

-- what was seen of a group, with one field more
abbrev pub seen_with : Seen → Field → Seen
seen_with seen field = record { cancelled = number_with (codes "cancelled") seen.cancelled field; source = number_with (codes "source") seen.source field }

-- what a group tells of which this was seen, and these fields follow
abbrev pub told_with : Seen → List Field → Told
told_with seen fields = told_from (number_or (codes "cancelled") seen.cancelled fields) (number_or (codes "source") seen.source fields)

-- the same, where there are fields, and what follows them
abbrev pub with_told : Seen → Option (List Field × List ℕ) → Option (Told × List ℕ)
with_told seen None = None
with_told seen (Some (fields, rest)) = Some (told_with seen fields, rest)

-- nothing was seen yet
abbrev pub unseen : Seen
unseen = record { cancelled = None; source = None }

-- what was told by groups, and what these groups of a list tell, where there is one, and what follows it
abbrev pub tolds_with : List Told → Option (List (List Field) × List ℕ) → Option (List Told × List ℕ)
tolds_with tolds None = None
tolds_with tolds (Some (groups, rest)) = Some (tolds ++ map told_of groups, rest)

-- the numbers of a list, by what follows its `{`, and what follows its `}`
abbrev pub numbers_front : List ℕ → Option (List Num × List ℕ)
numbers_front list = items_front number_item closing_brace list

-- the groups of a list, and what follows its `}`, so
abbrev pub groups_front : List ℕ → Option (List (List Field) × List ℕ)
groups_front list = items_front group_item closing_brace list

-- the requests that a value lists, where it is numbers
abbrev pub requests_from : Option Value → Option (List ℤ)
requests_from None = None
requests_from (Some value) = option_map requests_of (all_numbers value)

-- requests that were named, and those that these numbers of a list name, where there is one, and what follows it
abbrev pub requests_with : List ℤ → Option (List Num × List ℕ) → Option (List ℤ × List ℕ)
requests_with requests None = None
requests_with requests (Some (numbers, rest)) = Some (requests ++ requests_of numbers, rest)
