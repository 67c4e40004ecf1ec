-- Calls as a sink sees them.
use Rattle.std.specs.Prelude.{List, [], ◌∷◌, Option, Some, None, Result, Ok, Err, option_map}
use Rattle.mpi_model.specs.Times.{Times}
use Rattle.mpi_model.specs.declared.call.Call.{Call}
use Rattle.mpi_model.specs.declared.event.Exit.{Exit}
use Rattle.dumpi_text.specs.Call.{TextCall}
use Rattle.dumpi_calls.specs.Rows.{Callback, Row, row_of, typed}
use Rattle.dumpi_calls.specs.declared.parameter.CallFault.{CallFault}
use Rattle.dumpi_calls.specs.declared.typing.TypedCall.{TypedCall}

-- one call of a text: its callback, the call, when it was entered, and how it returned, where it did
pub record Seen : Type 0 where
  pub callback : Callback
  pub call : Call
  pub enter : Times
  pub exit : Option Exit

-- one callback with its call, when it was entered and how it returned
abbrev pub seen : Callback → Call → Times → Option Exit → Seen
seen callback call enter exit = record { callback = callback; call = call; enter = enter; exit = exit }

-- the state after some calls
abbrev pub after : {S : Type 0} → (S → Seen → S) → S → List Seen → S
after step state [] = state
after step state (call ∷ calls) = after step (step state call) calls

-- what a sink sees of a call, by the row of its function and by what was read
abbrev pub seen_by : Row → TypedCall → Seen
seen_by row call = seen (row.callback call.call) call.call call.enter call.exit

-- what a sink sees of calls, where each can be read
abbrev pub with_seen : Row → Result TypedCall CallFault → Option (List Seen) → Option (List Seen)
with_seen row (Err fault) others = None
with_seen row (Ok call) others = option_map (λ rest. seen_by row call ∷ rest) others

-- what a sink sees of these calls, in their order, where none is refused
abbrev pub seen_in : List TextCall → Option (List Seen)
seen_in [] = Some []
seen_in (raw ∷ raws) = with_seen (row_of raw) (typed raw) (seen_in raws)
