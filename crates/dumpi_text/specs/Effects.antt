-- What a line of a text does, at its place.
use Rattle.std.specs.Prelude.{ℕ, ◌+◌, true, false, List, [], ◌∷◌, ◌++◌, length, Option, Some, None, nat_lt, if◌then◌else◌}
use Rattle.std.specs.Option.{option_or}
use Rattle.mpi_model.specs.Times.{Times}
use Rattle.dumpi_text.specs.Bytes.{carriage_return}
use Rattle.dumpi_text.specs.Words.{trimmed, without_last}
use Rattle.dumpi_text.specs.Parameter.{parameter_of}
use Rattle.dumpi_text.specs.Stamps.{Kind, Blank, Entering, Returning, Threaded, Bad, Other, kind_of, is_entering}
use Rattle.dumpi_text.specs.declared.fault.LineFault.{LineFault}
use Rattle.dumpi_text.specs.declared.fault.LineFault.TheVariants.{LineTooLong, OtherThread, ReturnOutside, NotReturned, NameDiffers, BadParameter, Truncated, TooManyLines}
use Rattle.dumpi_text.specs.declared.source.TheConstants.{LONGEST_LINE}
use Rattle.dumpi_text.specs.declared.step.TheConstants.{MOST_LINES}
use Rattle.dumpi_text.specs.declared.step.Position.{Position}
use Rattle.dumpi_text.specs.Call.{TextCall, CallContent, Param, same_bytes}

-- a call that was entered: its content so far, when it was entered, and the number of its entering line
pub record Opening : Type 0 where
  pub content : CallContent
  pub enter : Times
  pub line : ℕ

-- what a line leaves: what is open then, the call that it ends, the call with which it ends the reading, or its fault
pub data Taken : Type 0 where
  Stays : (current : Option Opening) → Taken
  Gives : (call : TextCall) → Taken
  Ends : (call : TextCall) → Taken
  Refuses : (fault : LineFault) → Taken

-- the call that a returning line ends, or that the end of the text leaves open
abbrev pub call_of : Opening → Option Times → ℕ → TextCall
call_of current exit last = record { name = current.content.name; params = current.content.params; enter = current.enter; exit = exit; line = current.line; last_line = last; threads = false }

-- the call that a line of another thread ends
abbrev pub cut_call : Opening → ℕ → TextCall
cut_call current last = record (call_of current None last) { threads = true }

-- a call that is entered at a line
abbrev pub opening : List ℕ → Times → ℕ → Opening
opening name enter line = record { content = record { name = name; params = [] }; enter = enter; line = line }

-- A stamp line of another thread ends the reading, with the call that is open or, outside a call, with the one that the
-- line names. It is refused where it was written after a later entering line: there the calls of the two threads aren't
-- told in their order.
abbrev pub threaded : Position → Opening → Times → Taken × Position
threaded at current time = if nat_lt time.wall at.entered then (Refuses OtherThread, at) else (Ends (cut_call current at.line), at)

-- the place after a line that is skipped: one more was, and the first of them is told
abbrev pub skip_line : Position → Position
skip_line at = record at { skipped = at.skipped + 1; first_skipped = option_or at.first_skipped (Some at.line) }

-- One line outside a call, and inside one, at its place: what is open then, or the call that it ends, or its fault.
abbrev pub outside : Position → Kind → Taken × Position
outside at Blank = (Stays None, at)
outside at (Entering name enter) = (Stays (Some (opening name enter at.line)), record at { entered = enter.wall })
outside at (Returning name exit) = (Refuses ReturnOutside, at)
outside at (Threaded name time) = threaded at (opening name time at.line) time
outside at (Bad fault) = (Refuses fault, at)
outside at (Other content) = (Stays None, skip_line at)

-- one parameter more, at the end
abbrev pub more_params : CallContent → Param → CallContent
more_params content param = record content { params = content.params ++ param ∷ [] }

-- a line inside a call that is no stamp line, by the parameter on it
abbrev pub with_param : Position → Opening → Option (List ℕ × List ℕ) → Taken × Position
with_param at current None = (Stays (Some current), skip_line at)
with_param at current (Some ([], value)) = (Refuses BadParameter, at)
with_param at current (Some (byte ∷ name, value)) = (Stays (Some (record current { content = more_params current.content (record { name = byte ∷ name; value = value }) })), at)

-- a returning line inside a call: the call ends where the name is its own, and the line has this fault otherwise
abbrev pub returning : Position → Opening → List ℕ → Times → LineFault → Taken × Position
returning at current name exit fault = if same_bytes name current.content.name then (Gives (call_of current (Some exit) at.line), at) else (Refuses fault, at)

-- one line inside a call
abbrev pub inside : Position → Opening → Kind → Taken × Position
inside at current Blank = (Stays (Some current), at)
inside at current (Entering name enter) = (Refuses NotReturned, at)
inside at current (Returning name exit) = returning at current name exit NameDiffers
inside at current (Threaded name time) = threaded at current time
inside at current (Bad fault) = (Refuses fault, at)
inside at current (Other content) = with_param at current (parameter_of content)

-- one line, outside or inside a call
abbrev pub by_kind : Position → Option Opening → Kind → Taken × Position
by_kind at None kind = outside at kind
by_kind at (Some current) kind = inside at current kind

-- A last line without a line feed: outside a call it may enter none of thread 0, and inside one it has to end the call.
abbrev pub last_inside : Position → Opening → Kind → Taken × Position
last_inside at current Blank = (Refuses Truncated, at)
last_inside at current (Entering name enter) = (Refuses Truncated, at)
last_inside at current (Returning name exit) = returning at current name exit Truncated
last_inside at current (Threaded name time) = (Refuses Truncated, at)
last_inside at current (Bad fault) = (Refuses Truncated, at)
last_inside at current (Other content) = (Refuses Truncated, at)

-- a last line without a line feed, outside or inside a call
abbrev pub last_by_kind : Position → Option Opening → Kind → Taken × Position
last_by_kind at None kind = if is_entering kind then (Refuses Truncated, at) else outside at kind
last_by_kind at (Some current) kind = last_inside at current kind

-- the limit on lines is tried after the other refusals
abbrev pub within_limit : Taken × Position → Taken × Position
within_limit (Refuses fault, at) = (Refuses fault, at)
within_limit (Stays current, at) = if nat_lt MOST_LINES at.line then (Refuses TooManyLines, at) else (Stays current, at)
within_limit (Gives call, at) = if nat_lt MOST_LINES at.line then (Refuses TooManyLines, at) else (Gives call, at)
within_limit (Ends call, at) = if nat_lt MOST_LINES at.line then (Refuses TooManyLines, at) else (Ends call, at)

-- the place of the line that follows
abbrev pub count_line : Position → Position
count_line at = record at { line = at.line + 1 }

-- one line that ends with a line feed: one carriage return before it is dropped, then the blanks at both ends
unfoldable pub step : Position → Option Opening → List ℕ → Taken × Position
step at current line =
    if nat_lt LONGEST_LINE (length line)
    then (Refuses LineTooLong, count_line at)
    else within_limit (by_kind (count_line at) current (kind_of (trimmed (without_last carriage_return line))))

-- a last line without a line feed
unfoldable pub last_step : Position → Option Opening → List ℕ → Taken × Position
last_step at current line =
    if nat_lt LONGEST_LINE (length line)
    then (Refuses LineTooLong, count_line at)
    else within_limit (last_by_kind (count_line at) current (kind_of (trimmed line)))
