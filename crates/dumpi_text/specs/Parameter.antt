-- Parameters of a call: the name and the value on a line.
use Rattle.std.specs.Prelude.{ℕ, List, Option, Some, None}
use Rattle.dumpi_text.specs.Bytes.{equals, opening_bracket}
use Rattle.dumpi_text.specs.Words.{trimmed, trim_end, split_at, after_blanks}

-- a parameter's name, by what stands before the `=`: the last run without blanks, cut before its first `[`
unfoldable pub parameter_name : List ℕ → List ℕ
parameter_name before = (split_at opening_bracket (after_blanks (trim_end before))).0

-- by what stands before the first `=`, and after it
abbrev pub parameter_from : List ℕ → Option (List ℕ) → Option (List ℕ × List ℕ)
parameter_from before None = None
parameter_from before (Some after) = Some (parameter_name before, trimmed after)

-- the name and the value on a line, where it has a `=`
unfoldable pub parameter_of : List ℕ → Option (List ℕ × List ℕ)
parameter_of line = parameter_from (split_at equals line).0 (split_at equals line).1
