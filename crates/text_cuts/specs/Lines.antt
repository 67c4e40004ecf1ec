-- The first lines of a text.
use Rattle.std.specs.Prelude.{◌≡◌, ◌≤◌, ◌==◌, ℕ, zero, suc, List, [], ◌∷◌, Option, Some, None, if◌then◌else◌, length, take}
use Rattle.dumpi_text.specs.Bytes.{line_feed}
use Rattle.text_cuts.specs.declared.lines.FirstLines.{FirstLines}

-- how many bytes so many lines have from the front on, with their line feeds; all bytes, where there are fewer lines
abbrev pub bytes_of_lines : ℕ → List ℕ → ℕ
bytes_of_lines zero bytes = 0
bytes_of_lines (suc count) [] = 0
bytes_of_lines (suc count) (byte ∷ bytes) = suc (if byte == line_feed then bytes_of_lines count bytes else bytes_of_lines (suc count) bytes)

-- how many of so many lines aren't there, each with its line feed
abbrev pub missing_lines : ℕ → List ℕ → ℕ
missing_lines zero bytes = 0
missing_lines (suc count) [] = suc count
missing_lines (suc count) (byte ∷ bytes) = if byte == line_feed then missing_lines count bytes else missing_lines (suc count) bytes

-- the first lines of a text
abbrev pub first_lines : ℕ → List ℕ → List ℕ
first_lines count text = take (bytes_of_lines count text) text

-- This is told of the first lines of a text of at most so many bytes, where its bytes are told.
abbrev pub TellsLines : ℕ → ℕ → Option (List ℕ) → FirstLines → Type 0
TellsLines most count None lines = Unit {0}
TellsLines most count (Some text) lines = length text ≤ most → (lines.bytes ≡ bytes_of_lines count text) × (lines.missing ≡ missing_lines count text)
