-- From where in a program the calls of a text were made.
use Rattle.std.specs.Prelude.{ℕ, List, Option, Some, None, codes}
use Rattle.dumpi_text.specs.Call.{TextCall, first_value}

-- A call of a text as it stands there: its number among the calls of the text, from 0, the line where it begins, the
-- name of its function, and its call site, where the text has one.
pub record SiteParts : Type 0 where
  pub number : ℕ
  pub line : ℕ
  pub name : List ℕ
  pub caller : Option (List ℕ)

-- the first of two values that is there
abbrev pub first_of : Option (List ℕ) → Option (List ℕ) → Option (List ℕ)
first_of (Some value) other = Some value
first_of None other = other

-- the call site of a call: a tracer may write a star in front of the name
abbrev pub caller_of : TextCall → Option (List ℕ)
caller_of raw = first_of (first_value (codes "caller") raw.params) (first_value (codes "*caller") raw.params)

-- a call by its number, as it stands in its text
abbrev pub site_of : ℕ → TextCall → SiteParts
site_of number raw = record { number = number; line = raw.line; name = raw.name; caller = caller_of raw }
