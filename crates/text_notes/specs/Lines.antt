-- At which line of a text a call begins.
use Rattle.std.specs.Prelude.{◌≡◌, ℕ, List, Option, Some, None, option_map, slice_get}
use Rattle.dumpi_text.specs.Call.{TextCall}
use Rattle.dumpi_text.specs.Grammar.{text_meaning}

-- the line at which a call begins, by its number from 0, where there are so many calls
abbrev pub line_in : List TextCall → ℕ → Option ℕ
line_in calls number = option_map (λ call. call.line) (slice_get calls number)

-- The call of this number begins at this line of the text, where its bytes are told; or the text has no such call.
abbrev pub IsLineOf : Option (List ℕ) → ℕ → Option ℕ → Type 0
IsLineOf None number line = Unit {0}
IsLineOf (Some text) number line = line ≡ line_in (text_meaning text).calls number
