-- Where a text was cut off, and what is kept of it.
use Rattle.std.specs.Prelude.{◌-◌, ℕ, Bool, true, false, List, [], ◌∷◌, Option, Some, None, if◌then◌else◌, nat_lt, option_map}
use Rattle.dumpi_text.specs.Call.{TextCall}
use Rattle.dumpi_text.specs.Grammar.{Complete, Ending, Stopped, text_meaning}
use Rattle.dumpi_text.specs.declared.fault.LineFault.TheVariants.{BadStamp, Truncated}
use Rattle.dumpi_calls.specs.Lacking.{lacking_line}
use Rattle.text_cuts.specs.Lines.{first_lines, missing_lines}

-- where the last of the calls begins, where it has not returned and lacks an entry parameter
abbrev pub last_lacking : Bool → List TextCall → Option ℕ
last_lacking dropped [] = None
last_lacking dropped (call ∷ []) = lacking_line dropped call
last_lacking dropped (call ∷ other ∷ calls) = last_lacking dropped (other ∷ calls)

-- the same of the calls of a text that is read to its end
abbrev pub lacking_before : Bool → List TextCall → Ending → Option ℕ
lacking_before dropped calls (Complete at) = last_lacking dropped calls
lacking_before dropped calls (Stopped fault at) = None

-- where a call begins at the end of a text of which a line was dropped that has not returned and lacks an entry
-- parameter
abbrev pub lacking_in : List ℕ → Option ℕ
lacking_in text = lacking_before true (text_meaning text).calls (text_meaning text).end

-- where a text was cut off: how many of its lines are kept, and the number of its last line
pub record CutAt : Type 0 where
  pub kept : ℕ
  pub last : ℕ

-- so many lines, or those before the call that begins at a line
abbrev pub lines_before : Option ℕ → ℕ → ℕ
lines_before None count = count
lines_before (Some line) count = line - 1

-- Where a text was cut off that has these calls and ends so. A line without a line feed is dropped with which the text
-- ends inside a call, or that is a bad stamp; and then the call inside which the text ends, where it lacks an entry
-- parameter.
abbrev pub cut_by : List ℕ → List TextCall → Ending → Option CutAt
cut_by text calls (Complete at) = option_map (λ line. record { kept = line - 1; last = at.line }) (last_lacking false calls)
cut_by text calls (Stopped Truncated at) = Some (record { kept = lines_before (lacking_in (first_lines (at.line - 1) text)) (at.line - 1); last = at.line })
cut_by text calls (Stopped BadStamp at) = if nat_lt 0 (missing_lines at.line text) then Some (record { kept = at.line - 1; last = at.line }) else None
cut_by text calls (Stopped fault at) = None

-- where a text was cut off, where it was
abbrev pub cut_of : List ℕ → Option CutAt
cut_of text = cut_by text (text_meaning text).calls (text_meaning text).end

-- what is kept of a text that was cut off there, and all of one that wasn't
abbrev pub kept_by : Option CutAt → List ℕ → List ℕ
kept_by None text = text
kept_by (Some cut) text = first_lines cut.kept text

-- what is kept of a text
abbrev pub kept_text : List ℕ → List ℕ
kept_text text = kept_by (cut_of text) text
