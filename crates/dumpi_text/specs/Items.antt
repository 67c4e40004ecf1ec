-- Items of lists: numbers, fields of groups, and groups.
use Rattle.std.specs.Prelude.{ℕ, zero, suc, Bool, true, false, Option, Some, None, List, [], ◌∷◌, length, ◌==◌, if◌then◌else◌}
use Rattle.dumpi_text.specs.Bytes.{comma, equals, opening_brace, closing_brace}
use Rattle.dumpi_text.specs.Tokens.{after_spaces, after_byte, word_front}
use Rattle.dumpi_text.specs.Number.{number_front}
use Rattle.dumpi_text.specs.Stamps.{◌>>=◌}
use Rattle.dumpi_text.specs.declared.group.Field.{Field}

-- after an item: whether another one follows, by `,` or the closing byte, and what follows that
abbrev pub next_front : ℕ → List ℕ → Option (Bool × List ℕ)
next_front close [] = None
next_front close (byte ∷ bytes) = if byte == comma then Some (true, bytes) else (if byte == close then Some (false, bytes) else None)

-- an item before others
abbrev pub with_first : {A : Type 0} → A → Option (List A × List ℕ) → Option (List A × List ℕ)
with_first first None = None
with_first first (Some (others, rest)) = Some (first ∷ others, rest)

-- One or more items, parted by `,`, and the closing byte: no more items than this number, which counts the bytes.
abbrev pub many_front : {A : Type 0} → (List ℕ → Option (A × List ℕ)) → ℕ → ℕ → List ℕ → Option (List A × List ℕ)
many_front item close zero text = None
many_front item close (suc most) text = do
  first ← item (after_spaces text)
  next ← next_front close (after_spaces first.1)
  if next.0 then with_first first.0 (many_front item close most next.1) else Some (first.0 ∷ [], next.1)

-- one or more items, parted by `,`, and the closing byte
abbrev pub items_front : {A : Type 0} → (List ℕ → Option (A × List ℕ)) → ℕ → List ℕ → Option (List A × List ℕ)
items_front item close text = many_front item close (length text) text

-- a field of a group: word `=` number
unfoldable pub field_item : List ℕ → Option (Field × List ℕ)
field_item text = do
  word ← word_front text
  rest ← after_byte equals word.1
  number ← number_front (after_spaces rest)
  Some (record { word = word.0; number = number.0 }, number.1)

-- the fields of a group and its `}`
abbrev pub fields_front : List ℕ → Option (List Field × List ℕ)
fields_front text = items_front field_item closing_brace text

-- a group
abbrev pub group_item : List ℕ → Option (List Field × List ℕ)
group_item [] = None
group_item (byte ∷ bytes) = if byte == opening_brace then fields_front bytes else None
