-- The entries of a rank into collective calls (MPI 4.0, 6.1, 6.12 and 6.14).
use Rattle.std.specs.Prelude.{ℕ, Bool, true, false, ◌&&◌, not, if◌then◌else◌, Option, Some, None, List}
use Rattle.std.specs.List.{filter_map}
use Rattle.mpi_model.specs.declared.call.Call.{Call}
use Rattle.mpi_model.specs.declared.call.Call.TheVariants.{Collective, Icollective}
use Rattle.mpi_model.specs.declared.kind.Kind.{Kind}
use Rattle.mpi_model.specs.declared.kind.Kind.TheVariants.{Barrier}
use Rattle.mpi_model.specs.Kinds.{row}
use Rattle.mpi_model.specs.Ranges.{CollectiveCall}
use Rattle.mpi_model.specs.Layouts.{Parts}
use Rattle.trace_ops.specs.declared.entered.Entered.{Entered}
use Rattle.trace_ops.specs.Foreign.{Group, group_of}
use Rattle.trace_ops.specs.Steps.{Step}

-- The root of a round. On an intercommunicator each member names another: `MPI_ROOT`, `MPI_PROC_NULL` or a rank of the
-- other group (MPI 4.0, 6.2.3), so its rounds have none.
abbrev pub root_in : Group → CollectiveCall → Option ℕ
root_in g c = if g.inter then None else c.root

-- the entry of a collective call into a round of its object
abbrev pub entry_of : Group → ℕ → CollectiveCall → Bool → Entered
entry_of g n c nonblocking = record { comm = g.comm; inter = g.inter; function = record { kind = c.kind; nonblocking = nonblocking }; root = root_in g c; call = n }

-- the entry of a call, where it is collective, blocking or not
abbrev pub entered_by : Group → ℕ → Call → Option Entered
entered_by g n (Collective c) = Some (entry_of g n c false)
entered_by g n (Icollective c) = Some (entry_of g n c true)
entered_by g n call = None

-- the same, where the call takes part in a group
abbrev pub entered_in : Option Group → ℕ → Call → Option Entered
entered_in None n call = None
entered_in (Some g) n call = entered_by g n call

-- the entry of a collective call: foreign calls are none
abbrev pub entered_of : Parts → ℕ → ℕ → Call → Option Entered
entered_of layout rank n call = entered_in (group_of layout rank n call) n call

-- the entries of a rank's collective calls, in their order
abbrev pub rounds_of : Parts → ℕ → List Step → List Entered
rounds_of layout rank steps = filter_map (λ s. entered_of layout rank s.number s.entry.call) steps

-- the kind of a Barrier
abbrev pub is_barrier_kind : Kind → Bool
is_barrier_kind Barrier = true
is_barrier_kind kind = false

-- A Barrier, which no member leaves before all have entered it (MPI 4.0, 6.3). An Ibarrier may return at once (6.12.1),
-- and one on an intercommunicator waits for the other group alone (6.3).
abbrev pub is_barrier : Entered → Bool
is_barrier x = is_barrier_kind x.function.kind && not x.function.nonblocking && not x.inter

-- a collective communication on a communicator of one group, blocking or not (MPI 4.0, 6)
abbrev pub is_communication : Entered → Bool
is_communication x = (row x.function.kind).is_communication && not x.inter
