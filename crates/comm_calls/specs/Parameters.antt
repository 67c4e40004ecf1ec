-- The texts of parameters, and the notes of numbers.
use Rattle.std.specs.Prelude.{ℕ, List, [], Option, Some, None}
use Rattle.dumpi_text.specs.Bytes.{opening_parenthesis, closing_parenthesis}
use Rattle.dumpi_text.specs.Call.{TextCall, first_value}
use Rattle.dumpi_text.specs.Words.{split_at}

-- the text of the first parameter of a name
abbrev pub text_of : List ℕ → TextCall → Option (List ℕ)
text_of name raw = first_value name raw.params

-- the first of two that is there
abbrev pub or_text : Option (List ℕ) → Option (List ℕ) → Option (List ℕ)
or_text (Some text) next = Some text
or_text None next = next

-- the text of the first of two parameters that is there
abbrev pub either_text : List ℕ → List ℕ → TextCall → Option (List ℕ)
either_text name other raw = or_text (text_of name raw) (text_of other raw)

-- and of the first of three
abbrev pub any_text : List ℕ → List ℕ → List ℕ → TextCall → Option (List ℕ)
any_text name other last raw = or_text (text_of name raw) (either_text other last raw)

-- the bytes up to the closing parenthesis, behind an opening one
abbrev pub note_after : Option (List ℕ) → List ℕ
note_after None = []
note_after (Some rest) = (split_at closing_parenthesis rest).0

-- The note of a number: what stands between its parentheses, and nothing where it has none.
abbrev pub note_of : List ℕ → List ℕ
note_of text = note_after (split_at opening_parenthesis text).1
