-- What a rank did, by its readable events.
use Rattle.std.specs.Prelude.{ℕ, Bool, List, map, filter, length}
use Rattle.std.specs.List.{range_with_len}
use Rattle.mpi_model.specs.declared.event.Event.{Event}
use Rattle.mpi_model.specs.Communicators.{ids_with}
use Rattle.mpi_model.specs.Layouts.{Parts}
use Rattle.trace_know.specs.View.{View}
use Rattle.trace_know.specs.Prefix.{events_of, is_beyond}
use Rattle.trace_ops.specs.Active.{active_of, idle_of}
use Rattle.trace_ops.specs.Calls.{Entry, calls_of}
use Rattle.trace_ops.specs.Foreign.{is_foreign}
use Rattle.trace_ops.specs.Message.{sends_of}
use Rattle.trace_ops.specs.Receive.{receives_of}
use Rattle.trace_ops.specs.Round.{rounds_of}
use Rattle.trace_ops.specs.Steps.{Step, steps_of}
use Rattle.trace_ops.specs.Trust.{cancelled_of}
use Rattle.trace_ops.specs.RankState.{state_of, waiting_of}
use Rattle.trace_ops.specs.Ops.{Ops}

-- how many foreign calls were entered
abbrev pub foreign_of : Parts → ℕ → List Step → ℕ
foreign_of layout rank steps = length (filter (λ s. is_foreign layout rank s.number s.entry.call) steps)

-- what a rank with these calls and their steps did
abbrev pub ops_by_steps : Parts → ℕ → Bool → List Entry → List Step → Ops
ops_by_steps layout rank beyond calls steps = record {
  sends = sends_of layout rank steps;
  receives = receives_of layout rank steps;
  rounds = rounds_of layout rank steps;
  comms = ids_with rank layout.comms;
  active = active_of rank steps;
  idle = idle_of (active_of rank steps) calls;
  cancelled = cancelled_of rank steps;
  state = state_of layout rank beyond calls;
  waiting = waiting_of layout rank beyond calls;
  foreign = foreign_of layout rank steps;
}

-- what a rank with these calls did
abbrev pub ops_by_calls : Parts → ℕ → Bool → List Entry → Ops
ops_by_calls layout rank beyond calls = ops_by_steps layout rank beyond calls (steps_of calls)

-- What a rank with these readable events did; `beyond` says whether more is known of it than can be read.
unfoldable pub ops_by : Parts → ℕ → Bool → List Event → Ops
ops_by layout rank beyond events = ops_by_calls layout rank beyond (calls_of events)

-- what a rank of a view did
abbrev pub ops_of : Parts → View → ℕ → Ops
ops_of layout view rank = ops_by layout rank (is_beyond view rank) (events_of view rank)

-- what the ranks of the layout did, each at its own place
abbrev pub all_ops : Parts → View → List Ops
all_ops layout view = map (ops_of layout view) (range_with_len 0 layout.ranks)
