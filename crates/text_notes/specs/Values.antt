-- What a text has for a parameter of one of its calls.
use Rattle.std.specs.Prelude.{◌≡◌, ◌==◌, ◌++◌, ℕ, List, [], ◌∷◌, Option, Some, None, if◌then◌else◌}
use Rattle.dumpi_text.specs.Call.{TextCall, first_value}
use Rattle.dumpi_text.specs.Grammar.{Ending, text_meaning}
use Rattle.dumpi_text.specs.Reading.{MeansAll}
use Rattle.dumpi_text.specs.Standing.{TextState}
use Rattle.dumpi_calls.specs.Walks.{IsRead}

-- the call that begins at a line
abbrev pub call_at : ℕ → List TextCall → Option TextCall
call_at line [] = None
call_at line (call ∷ calls) = if call.line == line then Some call else call_at line calls

-- the value of the first parameter of a name, where there is a call that has one
abbrev pub value_in : List ℕ → Option TextCall → Option (List ℕ)
value_in name None = None
value_in name (Some call) = first_value name call.params

-- This is the value of the parameter in the call of the text that begins at the line, where the text's bytes are told;
-- or there is none.
abbrev pub IsValueAt : Option (List ℕ) → ℕ → List ℕ → Option (List ℕ) → Type 0
IsValueAt None line name value = Unit {0}
IsValueAt (Some text) line name value = value ≡ value_in name (call_at line (text_meaning text).calls)

-- Whatever calls of whatever text were read so far, this holds of them.
abbrev pub OfRead : TextState → (Option (List ℕ) → List TextCall → Type 0) → Type 0
OfRead view P = (text : Option (List ℕ)) (calls : List TextCall) → IsRead text calls view → P text calls

-- One call more was read; or the text has no other, since it is over or refused there.
abbrev pub GoesOn : Option (List ℕ) → List TextCall → Option TextCall → TextState → Type 0
GoesOn text calls (Some call) view = IsRead text (calls ++ call ∷ []) view
GoesOn text calls None view = (end : Ending) × MeansAll text calls end
