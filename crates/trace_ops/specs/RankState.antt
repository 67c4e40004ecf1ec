-- How a rank stands at the end of its readable events.
use Rattle.std.specs.Prelude.{ℕ, ◌-◌, Bool, true, false, ◌&&◌, not, if◌then◌else◌, Option, Some, None, is_none, List, length, slice_get}
use Rattle.std.specs.Option.{option_map}
use Rattle.mpi_model.specs.declared.call.Call.{Call}
use Rattle.mpi_model.specs.declared.call.Call.TheVariants.{Finalize, Send, Recv, Sendrecv, Probe, Mprobe, Wait, Waitall, Waitany, Waitsome, Collective}
use Rattle.mpi_model.specs.Layouts.{Parts}
use Rattle.trace_ops.specs.declared.state.State.{State}
use Rattle.trace_ops.specs.declared.state.State.TheVariants.{Free, Waiting, Ended}
use Rattle.trace_ops.specs.Calls.{Entry}
use Rattle.trace_ops.specs.Foreign.{is_foreign}

-- the calls that return only once something else has happened, or may do so (MPI 4.0, 3.4, 3.7.3, 3.7.5, 3.8.1,
-- 3.8.2 and 6.1)
abbrev pub may_block : Call → Bool
may_block (Send mode e) = true
may_block (Recv e) = true
may_block (Sendrecv x) = true
may_block (Probe e) = true
may_block (Mprobe e) = true
may_block (Wait request) = true
may_block (Waitall requests) = true
may_block (Waitany requests) = true
may_block (Waitsome requests) = true
may_block (Collective c) = true
may_block call = false

-- A waiting call: it may block, and is not foreign.
abbrev pub is_waiting_call : Parts → ℕ → ℕ → Call → Bool
is_waiting_call layout rank n call = may_block call && not (is_foreign layout rank n call)

-- the call has not returned, and is a waiting call
abbrev pub waits_in : Parts → ℕ → ℕ → Entry → Bool
waits_in layout rank n c = is_none c.outs && is_waiting_call layout rank n c.call

-- the call is MPI_Finalize
abbrev pub is_finalize : Call → Bool
is_finalize Finalize = true
is_finalize call = false

-- the state of a rank whose last call is this one
abbrev pub state_after : Parts → ℕ → ℕ → Entry → State
state_after layout rank n c = if is_finalize c.call then Ended else if waits_in layout rank n c then Waiting else Free

-- the last of the calls, with its number
abbrev pub last_of : List Entry → Option (ℕ × Entry)
last_of calls = option_map (λ c. (length calls - 1, c)) (slice_get calls (length calls - 1))

-- the state by the last readable call: free where there is none
abbrev pub state_at : Parts → ℕ → Option (ℕ × Entry) → State
state_at layout rank None = Free
state_at layout rank (Some last) = state_after layout rank last.0 last.1

-- Ended: the last readable event belongs to Finalize. Waiting: it enters a waiting call. A rank of which more is known
-- than can be read is free, and so is any other.
abbrev pub state_of : Parts → ℕ → Bool → List Entry → State
state_of layout rank beyond calls = if beyond then Free else state_at layout rank (last_of calls)

-- the call in which a waiting rank stands
abbrev pub waiting_at : State → Option (ℕ × Entry) → Option (ℕ × Call)
waiting_at Free last = None
waiting_at Ended last = None
waiting_at Waiting None = None
waiting_at Waiting (Some last) = Some (last.0, last.1.call)

-- the call in which the rank waits
abbrev pub waiting_of : Parts → ℕ → Bool → List Entry → Option (ℕ × Call)
waiting_of layout rank beyond calls = waiting_at (state_of layout rank beyond calls) (last_of calls)
