-- Tokens of values. Each is what stands in front of a text, and what follows it there.
use Rattle.std.specs.Prelude.{ℕ, Option, Some, None, List, [], ◌∷◌, ◌==◌, if◌then◌else◌}
use Rattle.dumpi_text.specs.Bytes.{space}
use Rattle.dumpi_text.specs.Time.{is_digit}
use Rattle.dumpi_text.specs.Words.{word_parts}

-- the text without the spaces in front
abbrev pub after_spaces : List ℕ → List ℕ
after_spaces [] = []
after_spaces (byte ∷ bytes) = if byte == space then after_spaces bytes else byte ∷ bytes

-- what follows a byte that stands in front
abbrev pub byte_front : ℕ → List ℕ → Option (List ℕ)
byte_front wanted [] = None
byte_front wanted (byte ∷ bytes) = if byte == wanted then Some bytes else None

-- what follows a byte that stands in front, after spaces
abbrev pub after_byte : ℕ → List ℕ → Option (List ℕ)
after_byte wanted text = byte_front wanted (after_spaces text)

-- the longest front of digits, and what follows it
abbrev pub digit_parts : List ℕ → List ℕ × List ℕ
digit_parts [] = ([], [])
digit_parts (byte ∷ bytes) = if is_digit byte then (byte ∷ (digit_parts bytes).0, (digit_parts bytes).1) else ([], byte ∷ bytes)

-- parts whose front has a byte at least
abbrev pub unless_empty : List ℕ × List ℕ → Option (List ℕ × List ℕ)
unless_empty ([], rest) = None
unless_empty (byte ∷ bytes, rest) = Some (byte ∷ bytes, rest)

-- one or more digits, and what follows them
abbrev pub digits_front : List ℕ → Option (List ℕ × List ℕ)
digits_front text = unless_empty (digit_parts text)

-- a word, which is one or more letters, digits and `_`, and what follows it
abbrev pub word_front : List ℕ → Option (List ℕ × List ℕ)
word_front text = unless_empty (word_parts text)
