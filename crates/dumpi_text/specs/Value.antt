-- Values of parameters: a number, a list of numbers, or a list of groups. Spaces between the parts are passed over.
use Rattle.std.specs.Prelude.{ℕ, ◌||◌, Option, Some, None, List, [], ◌∷◌, ◌==◌, if◌then◌else◌, option_map}
use Rattle.dumpi_text.specs.Bytes.{equals, opening_bracket, closing_bracket, opening_brace, closing_brace}
use Rattle.dumpi_text.specs.Tokens.{after_spaces, after_byte, digits_front, word_front}
use Rattle.dumpi_text.specs.Number.{number_front, bracketed_front, number_item, note_front}
use Rattle.dumpi_text.specs.Items.{items_front, fields_front, group_item}
use Rattle.dumpi_text.specs.Stamps.{◌>>=◌}
use Rattle.dumpi_text.specs.declared.number.Num.{Num}
use Rattle.dumpi_text.specs.declared.group.Field.{Field}
use Rattle.dumpi_text.specs.declared.value.Value.{Value}
use Rattle.dumpi_text.specs.declared.value.Value.TheVariants.{Number, Numbers, Groups}

-- a number
abbrev pub one_number : Option (Num × List ℕ) → Option (Value × List ℕ)
one_number found = option_map (λ x. (Number x.0, x.1)) found

-- a list of numbers
abbrev pub all_numbers : Option (List Num × List ℕ) → Option (Value × List ℕ)
all_numbers found = option_map (λ x. (Numbers x.0, x.1)) found

-- a list of groups
abbrev pub all_groups : Option (List (List Field) × List ℕ) → Option (Value × List ℕ)
all_groups found = option_map (λ x. (Groups x.0, x.1)) found

-- a group that stands alone: a list of one
abbrev pub one_group : Option (List Field × List ℕ) → Option (Value × List ℕ)
one_group found = option_map (λ x. (Groups (x.0 ∷ []), x.1)) found

-- what follows the opening byte of a list: nothing, groups, or numbers
abbrev pub list_rest : ℕ → List ℕ → Option (Value × List ℕ)
list_rest close [] = None
list_rest close (byte ∷ bytes) =
    if byte == close then Some (Numbers [], bytes)
    else (if byte == opening_brace then all_groups (items_front group_item close (byte ∷ bytes))
    else all_numbers (items_front number_item close (byte ∷ bytes)))

-- whether a field begins, which a word and `=` do
unfoldable pub field_begins : List ℕ → Option (List ℕ)
field_begins text = do
  word ← word_front text
  after_byte equals word.1

-- what follows a `{`, by whether a field begins: the fields of one group, or a list
abbrev pub by_field : Option (List ℕ) → List ℕ → Option (Value × List ℕ)
by_field (Some rest) text = one_group (fields_front text)
by_field None text = list_rest closing_brace text

-- what follows a `{`
abbrev pub brace_rest : List ℕ → Option (Value × List ℕ)
brace_rest text = by_field (field_begins text) text

-- a list or a group
abbrev pub list_front : List ℕ → Option (Value × List ℕ)
list_front [] = None
list_front (byte ∷ bytes) =
    if byte == opening_bracket then list_rest closing_bracket (after_spaces bytes)
    else (if byte == opening_brace then brace_rest (after_spaces bytes) else None)

-- a text that begins with a list or a group
abbrev pub list_begins : List ℕ → Option (List ℕ)
list_begins [] = None
list_begins (byte ∷ bytes) = if byte == opening_bracket || byte == opening_brace then Some (byte ∷ bytes) else None

-- the list or the group after a count, which is digits and `]`
unfoldable pub after_count : List ℕ → Option (List ℕ)
after_count text = do
  digits ← digits_front text
  rest ← after_byte closing_bracket digits.1
  list_begins (after_spaces rest)

-- what follows a `[`, by what it may be: a count before a list or a group; else a number; else a list
abbrev pub by_count : Option (List ℕ) → Option (Num × List ℕ) → List ℕ → Option (Value × List ℕ)
by_count (Some listed) number text = list_front listed
by_count None (Some number) text = one_number (Some number)
by_count None None text = list_rest closing_bracket text

-- what follows a `[`
abbrev pub bracket_rest : List ℕ → Option (Value × List ℕ)
bracket_rest text = by_count (after_count text) (bracketed_front text) text

-- a value without its note
abbrev pub core_front : List ℕ → Option (Value × List ℕ)
core_front [] = None
core_front (byte ∷ bytes) =
    if byte == opening_bracket then bracket_rest (after_spaces bytes)
    else (if byte == opening_brace then brace_rest (after_spaces bytes) else one_number (number_front (byte ∷ bytes)))

-- a value after which nothing follows
abbrev pub when_over : Value → List ℕ → Option Value
when_over value [] = Some value
when_over value (byte ∷ bytes) = None

-- what a text says: a core, and an optional note
unfoldable pub value_of : List ℕ → Option Value
value_of text = do
  core ← core_front (after_spaces text)
  note ← note_front (after_spaces core.1)
  when_over core.0 (after_spaces note.1)
