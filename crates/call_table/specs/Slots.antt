-- The rows of a call: one, or of a Sendrecv one for each side, and of a Startall one for each of its requests.
use Rattle.std.specs.Prelude.{ℕ, ◌==◌, Some, None, if◌then◌else◌, length, max}
use Rattle.mpi_model.specs.declared.call.Call.{Call}
use Rattle.mpi_model.specs.declared.call.Call.TheVariants.{Sendrecv, Startall}
use Rattle.call_table.specs.declared.slot.Side.{Side}
use Rattle.call_table.specs.declared.slot.Side.TheVariants.{Send, Receive}
use Rattle.call_table.specs.declared.slot.Slot.{Slot}

-- how many rows a call has: one at least
abbrev pub slot_count : Call → ℕ
slot_count (Sendrecv both) = 2
slot_count (Startall requests) = max (length requests) 1
slot_count call = 1

-- the side of a Sendrecv by the place of its row: its send stands before its receive
abbrev pub side_at : ℕ → Side
side_at place = if place == 0 then Send else Receive

-- what the row at a place of a call is of
abbrev pub slot_at : Call → ℕ → Slot
slot_at (Sendrecv both) place = record { part = 0; side = Some (side_at place) }
slot_at (Startall requests) place = record { part = place; side = None }
slot_at call place = record { part = 0; side = None }
