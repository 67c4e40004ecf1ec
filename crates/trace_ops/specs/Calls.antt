-- The calls of a rank, as its readable events tell them.
use Rattle.std.specs.Prelude.{◌≡◌, ℕ, Option, Some, None, List, [], ◌∷◌, slice_get}
use Rattle.mpi_model.specs.declared.call.Call.{Call}
use Rattle.mpi_model.specs.declared.call.Call.TheVariants.{Local}
use Rattle.mpi_model.specs.declared.outcome.Outs.{Outs}
use Rattle.mpi_model.specs.declared.event.Event.{Event}
use Rattle.mpi_model.specs.declared.event.Event.TheVariants.{Enter, Return}

-- a call that was entered, and its outcome, where it has returned
pub record Entry : Type 0 where
  pub call : Call
  pub outs : Option Outs

-- This is the call at a place.
abbrev pub IsCallAt : List Entry → ℕ → Entry → Type 0
IsCallAt calls n c = slice_get calls n ≡ Some c

-- This call was entered at a place, whatever its outcome.
abbrev pub IsEnteredAt : List Entry → ℕ → Call → Type 0
IsEnteredAt calls n call = (c : Entry) × IsCallAt calls n c × (c.call ≡ call)

-- the call of an Enter (an event at an even place is one)
abbrev pub call_of : Event → Call
call_of (Enter call time) = call
call_of (Return outs time) = Local

-- the outcome of a Return (an event at an odd place is one)
abbrev pub outs_of : Event → Option Outs
outs_of (Enter call time) = None
outs_of (Return outs time) = Some outs

-- The calls of these events: call n has its Enter at place 2n and its Return at 2n + 1. The last may not have returned.
abbrev pub calls_of : List Event → List Entry
calls_of [] = []
calls_of (enter ∷ []) = record { call = call_of enter; outs = None } ∷ []
calls_of (enter ∷ exit ∷ events) = record { call = call_of enter; outs = outs_of exit } ∷ calls_of events
