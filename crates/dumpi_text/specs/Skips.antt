-- The lines of a text that are skipped.
use Rattle.std.specs.Prelude.{◌≡◌, ◌≤◌, ◌+◌, ℕ, Bool, true, false, is_none, List, [], ◌∷◌, ◌++◌, length, map, Option, Some, None}
use Rattle.std.specs.List.{list_any}
use Rattle.dumpi_text.specs.Bytes.{carriage_return}
use Rattle.dumpi_text.specs.Call.{TextCall}
use Rattle.dumpi_text.specs.Grammar.{Complete}
use Rattle.dumpi_text.specs.Lines.{split_text}
use Rattle.dumpi_text.specs.Parameter.{parameter_of}
use Rattle.dumpi_text.specs.Reading.{MeansAll}
use Rattle.dumpi_text.specs.Stamps.{Kind, Entering, Returning, Threaded, Other, kind_of}
use Rattle.dumpi_text.specs.Words.{trimmed, without_last}
use Rattle.dumpi_text.specs.declared.step.Position.{Position}

-- what a line is that ends with a line feed
abbrev pub whole_kind : List ℕ → Kind
whole_kind line = kind_of (trimmed (without_last carriage_return line))

-- what the lines of a text are, in order, and what stands after the last line feed
abbrev pub kinds_of : List ℕ → List Kind
kinds_of text = map whole_kind (split_text text).whole ++ kind_of (trimmed (split_text text).last) ∷ []

-- a stamp line of another thread, which ends the reading
abbrev pub is_threaded : Kind → Bool
is_threaded (Threaded name at) = true
is_threaded _ = false

-- whether a call is open behind a line, by whether one is before it
abbrev pub is_inside_after : Bool → Kind → Bool
is_inside_after is_open (Entering name at) = true
is_inside_after is_open (Returning name at) = false
is_inside_after is_open _ = is_open

-- whether a call is open behind lines: the last stamp line among them enters one; or, where none is, one is open before
-- them
abbrev pub is_inside : Bool → List Kind → Bool
is_inside is_open [] = is_open
is_inside is_open (kind ∷ kinds) = is_inside (is_inside_after is_open kind) kinds

-- a line that says nothing: outside a call one that is neither blank nor a stamp line, inside one such a line without a
-- parameter
abbrev pub says_nothing : Bool → Kind → Bool
says_nothing false (Other content) = true
says_nothing true (Other content) = is_none (parameter_of content)
says_nothing is_open _ = false

-- The line of this number, from 1, is skipped: it is read, since no line of another thread stands before it, and says
-- nothing.
pub record SkipsLine (text : List ℕ) (number : ℕ) : Type 0 where
  pub before : List Kind
  pub kind : Kind
  pub after : List Kind
  pub stands : kinds_of text ≡ before ++ kind ∷ after
  pub numbered : number ≡ length before + 1
  pub read : list_any is_threaded before ≡ false
  pub says : says_nothing (is_inside false before) kind ≡ true

-- the least number of which a fact holds, where it holds of one
abbrev pub IsLeast : (ℕ → Type 0) → Option ℕ → Type 0
IsLeast P None = (n : ℕ) → P n → ⊥
IsLeast P (Some least) = P least × ((n : ℕ) → P n → least ≤ n)

-- the first line of a text that is skipped, where one is; of a text whose bytes are told
abbrev pub IsFirstSkipped : Option (List ℕ) → Option ℕ → Type 0
IsFirstSkipped None line = Unit {0}
IsFirstSkipped (Some text) line = IsLeast (SkipsLine text) line

-- The place at the end of a text tells it.
abbrev pub TellsFirstSkipped : Type 0
TellsFirstSkipped = (text : Option (List ℕ)) (calls : List TextCall) (at : Position) → MeansAll text calls (Complete at) → IsFirstSkipped text at.first_skipped
