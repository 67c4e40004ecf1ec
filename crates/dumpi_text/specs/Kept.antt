-- Calls of which not all parameters are kept while they are read.
use Rattle.std.specs.Prelude.{◌≡◌, ℕ, Bool, true, List, [], ◌∷◌, ◌++◌, length, Option, Some, None, nat_lt, if◌then◌else◌}
use Rattle.dumpi_text.specs.Bytes.{carriage_return}
use Rattle.dumpi_text.specs.Call.{CallContent, Param, TextCall}
use Rattle.dumpi_text.specs.Effects.{Opening, Taken, Stays, Gives, Ends, Refuses, count_line, inside, outside, skip_line, within_limit}
use Rattle.dumpi_text.specs.Next.{IsNext, SameMeaning}
use Rattle.dumpi_text.specs.Parameter.{parameter_of}
use Rattle.dumpi_text.specs.Source.{Rest, rest_of}
use Rattle.dumpi_text.specs.Stamps.{Kind, Blank, Entering, Returning, Threaded, Bad, Other, kind_of}
use Rattle.dumpi_text.specs.Words.{trimmed, without_last}
use Rattle.dumpi_text.specs.declared.fault.LineFault.TheVariants.{BadParameter, LineTooLong}
use Rattle.dumpi_text.specs.declared.source.TheConstants.{LONGEST_LINE}
use Rattle.dumpi_text.specs.declared.step.Position.{Position}

-- Whether a parameter is kept, by its function's name, the parameters that were kept before it, and its own name.
abbrev pub Choice : Type 0
Choice = List ℕ → List Param → List ℕ → Bool

-- every parameter is kept
abbrev pub keep_all : Choice
keep_all function kept name = true

-- one parameter more of a function, where it is kept
abbrev pub more_kept : Choice → List ℕ → List Param → Param → List Param
more_kept keep function kept param = if keep function kept param.name then kept ++ param ∷ [] else kept

-- the parameters that are kept, those that were kept before them among them
abbrev pub kept_after : Choice → List ℕ → List Param → List Param → List Param
kept_after keep function kept [] = kept
kept_after keep function kept (param ∷ params) = kept_after keep function (more_kept keep function kept param) params

-- those of a function's parameters that are kept, in their order
abbrev pub kept_params : Choice → List ℕ → List Param → List Param
kept_params keep function params = kept_after keep function [] params

-- a call with those of its parameters that are kept
abbrev pub kept_call : Choice → TextCall → TextCall
kept_call keep call = record call { params = kept_params keep call.name call.params }

-- a call that is open, so
abbrev pub kept_content : Choice → CallContent → CallContent
kept_content keep content = record content { params = kept_params keep content.name content.params }

-- a call that was entered, with when and where that was, so
abbrev pub kept_opening : Choice → Opening → Opening
kept_opening keep current = record current { content = kept_content keep current.content }

-- what is open, so
abbrev pub kept_open : Choice → Option Opening → Option Opening
kept_open keep None = None
kept_open keep (Some current) = Some (kept_opening keep current)

-- the call that came, so
abbrev pub kept_found : Choice → Option TextCall → Option TextCall
kept_found keep None = None
kept_found keep (Some call) = Some (kept_call keep call)

-- what a line leaves, so
abbrev pub kept_taken : Choice → Taken → Taken
kept_taken keep (Stays current) = Stays (kept_open keep current)
kept_taken keep (Gives call) = Gives (kept_call keep call)
kept_taken keep (Ends call) = Ends (kept_call keep call)
kept_taken keep (Refuses fault) = Refuses fault

-- what a line leaves, and the position behind it, so
abbrev pub kept_at : Choice → Taken × Position → Taken × Position
kept_at keep (taken, at) = (kept_taken keep taken, at)

-- ---- what a line does with a call of which not all is kept

-- a line inside a call that is no stamp line, by the parameter on it
abbrev pub keep_param : Choice → Position → Opening → Option (List ℕ × List ℕ) → Taken × Position
keep_param keep at current None = (Stays (Some current), skip_line at)
keep_param keep at current (Some ([], value)) = (Refuses BadParameter, at)
keep_param keep at current (Some (byte ∷ name, value)) = (Stays (Some (record current { content = record current.content { params = more_kept keep current.content.name current.content.params (record { name = byte ∷ name; value = value }) } })), at)

-- one line inside a call
abbrev pub keep_inside : Choice → Position → Opening → Kind → Taken × Position
keep_inside keep at current Blank = inside at current Blank
keep_inside keep at current (Entering name enter) = inside at current (Entering name enter)
keep_inside keep at current (Returning name exit) = inside at current (Returning name exit)
keep_inside keep at current (Threaded name time) = inside at current (Threaded name time)
keep_inside keep at current (Bad fault) = inside at current (Bad fault)
keep_inside keep at current (Other content) = keep_param keep at current (parameter_of content)

-- one line, outside or inside a call
abbrev pub keep_by_kind : Choice → Position → Option Opening → Kind → Taken × Position
keep_by_kind keep at None kind = outside at kind
keep_by_kind keep at (Some current) kind = keep_inside keep at current kind

-- one line that ends with a line feed
unfoldable pub keep_step : Choice → Position → Option Opening → List ℕ → Taken × Position
keep_step keep at current line =
    if nat_lt LONGEST_LINE (length line)
    then (Refuses LineTooLong, count_line at)
    else within_limit (keep_by_kind keep (count_line at) current (kind_of (trimmed (without_last carriage_return line))))

-- ---- the next call

-- What is open at a place is what is kept of a call, and with that call a text still means there what it means from
-- another place, outside a call, on.
unfoldable pub SameKept : Choice → Position → Option (List ℕ) → Position → Option Opening → Option (List ℕ) → Type 0
SameKept keep first known at current rest = (whole : Option Opening) × (current ≡ kept_open keep whole) × SameMeaning first None known at whole rest

-- The call that came is what is kept of the text's next one; or no call did.
unfoldable pub IsNextKept : Choice → Position → Option (List ℕ) → Option TextCall → Position → Option (List ℕ) → Type 0
IsNextKept keep at rest found next left = (whole : Option TextCall) × (found ≡ kept_found keep whole) × IsNext at rest whole next left

-- The call that came from a source of lines, so.
abbrev pub ComesKept : Choice → Position → Rest → Option TextCall → Position → Rest → Type 0
ComesKept keep at old found next new = IsNextKept keep at (rest_of old) found next (rest_of new)
