-- The calls of a rank, as its readable events tell them.
use Rattle.std.specs.Prelude.{ℕ, ◌+◌, ◌*◌, ◌/◌, ◌%◌, Option, Some, None, List, length, slice_get}
use Rattle.std.specs.Option.{option_and_then, option_copied}
use Rattle.mpi_model.specs.declared.call.Call.{Call}
use Rattle.mpi_model.specs.declared.event.Event.{Event}
use Rattle.mpi_model.specs.declared.event.Event.TheVariants.{Enter, Return}
use Rattle.mpi_model.specs.declared.outcome.Outs.{Outs}
use Rattle.trace_diagnosis.specs.declared.calls.Called.{Called}

-- the call of an Enter
abbrev pub entered_in : Event → Option Call
entered_in (Enter call time) = Some call
entered_in (Return outs time) = None

-- the outcome of a Return
abbrev pub returned_in : Event → Option Outs
returned_in (Enter call time) = None
returned_in (Return outs time) = Some outs

-- how many calls these events tell: the last may have no Return
abbrev pub count_of : List Event → ℕ
count_of events = length events / 2 + length events % 2

-- the call of the Enter at a place, and the outcome of the Return
abbrev pub entered_at : List Event → ℕ → Option Call
entered_at events place = option_and_then entered_in (slice_get events place)

abbrev pub returned_at : List Event → ℕ → Option Outs
returned_at events place = option_and_then returned_in (slice_get events place)

-- a call with its outcome, where it was entered
abbrev pub with_outs : Option Call → Option Outs → Option (Call × Option Outs)
with_outs None outs = None
with_outs (Some call) outs = Some (call, outs)

-- The call of a number, with its outcome, where it has returned: its Enter stands at twice the number, its Return
-- behind that.
abbrev pub called_in : List Event → ℕ → Option (Call × Option Outs)
called_in events n = with_outs (entered_at events (n * 2)) (returned_at events (n * 2 + 1))

-- a call as the code has it
abbrev pub called_plain : Called → Call × Option Outs
called_plain c = (c.call.now, option_copied c.outs)
