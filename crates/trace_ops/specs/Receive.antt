-- The receives of a rank, with their told sources (MPI 4.0, 3.2.4, 3.7.2, 3.8.1, 3.8.2, 3.8.4, 3.9 and 3.10).
use Rattle.std.specs.Prelude.{ℕ, pos, Bool, false, if◌then◌else◌, Option, Some, None, List, slice_get}
use Rattle.std.specs.List.{filter_map}
use Rattle.std.specs.Option.{option_and_then}
use Rattle.mpi_model.specs.declared.envelope.Envelope.{Envelope}
use Rattle.mpi_model.specs.declared.envelope.Peer.{Peer}
use Rattle.mpi_model.specs.declared.envelope.Peer.TheVariants.{Any, Null, Rank}
use Rattle.mpi_model.specs.declared.call.Call.{Call}
use Rattle.mpi_model.specs.declared.call.Call.TheVariants.{Recv, Irecv, Sendrecv, Mprobe, Improbe}
use Rattle.mpi_model.specs.declared.event.OpName.{OpName}
use Rattle.mpi_model.specs.declared.message.Receive.{Receive}
use Rattle.mpi_model.specs.declared.message.Trust.{Trust}
use Rattle.mpi_model.specs.declared.message.Trust.TheVariants.{Sure}
use Rattle.mpi_model.specs.declared.outcome.Outs.{Outs}
use Rattle.mpi_model.specs.declared.outcome.Outs.TheVariants.{Flag}
use Rattle.mpi_model.specs.declared.object.Object.TheVariants.{Communicator}
use Rattle.mpi_model.specs.Layouts.{Parts}
use Rattle.mpi_model.specs.Ranges.{Probed}
use Rattle.trace_ops.specs.Ended.{ended_of_own, ended_of_post}
use Rattle.trace_ops.specs.Foreign.{Group, group_named, group_of}
use Rattle.trace_ops.specs.Source.{told_of_flag, told_of_own, told_of_post}
use Rattle.trace_ops.specs.Steps.{Placed, Step, name_of, naming, placed, posted_by, starting}
use Rattle.trace_ops.specs.Trust.{trust_of_probe, trust_of_receive}

-- the receive of a call's envelope, with its source as far as that is told, and the call that completes it
abbrev pub receive_from : Group → OpName → Envelope → Trust → (source ended : Option ℕ) → Receive
receive_from g name e trust source ended = record {
  name = name;
  comm = g.comm;
  at = name.rank;
  source = source;
  tag = e.tag;
  count = e.count;
  trust = trust;
  datatype = e.datatype;
  ended = ended;
}

-- The receive of a call that names this source, where `told` is what its outcome tells. A receive from the null process
-- takes nothing.
abbrev pub taken_from : Group → OpName → Envelope → Trust → (told ended : Option ℕ) → Peer → Option Receive
taken_from g name e trust told ended Null = None
taken_from g name e trust told ended Any = Some (receive_from g name e trust told ended)
taken_from g name e trust told ended (Rank p) = Some (receive_from g name e trust (slice_get g.members p) ended)

-- the receive as which a call looks for a message
abbrev pub taken_with : Group → OpName → Envelope → Trust → (told ended : Option ℕ) → Option Receive
taken_with g name e trust told ended = taken_from g name e trust told ended e.peer

-- the envelope that a probe looks for, with a number of elements
abbrev pub probe_envelope : ℕ → Probed → Envelope
probe_envelope count e = record { peer = e.source; tag = e.tag; comm = e.comm; count = count; datatype = pos 0 }

-- the receive that a Probe looks as: it takes no message
abbrev pub probed_in : ℕ → ℕ → Probed → Group → Option Receive
probed_in rank n e g = taken_with g (record { rank = rank; call = n; part = 0 }) (probe_envelope 0 e) Sure None None

-- The receive as which a probe looks for a message: with its source, or untold where it names any. It takes nothing.
abbrev pub probed : Parts → ℕ → ℕ → Probed → Option Receive
probed layout rank n e = option_and_then (probed_in rank n e) (group_named layout rank n Communicator e.comm)

-- the most elements that an `int` counts; a matched probe names no count, and takes a message of any (MPI 4.0, 3.8.2)
abbrev pub any_count : ℕ
any_count = 2147483647

-- An Improbe has taken a message: it has returned with its flag set (MPI 4.0, 3.8.2).
abbrev pub has_taken : Option Outs → Bool
has_taken (Some (Flag done told)) = done
has_taken outs = false

-- the receive of a matched probe, which takes its message itself and ends with its own call
abbrev pub matched_with : Group → OpName → Probed → Trust → (told : Option ℕ) → Option Outs → Option Receive
matched_with g name e trust told outs = taken_with g name (probe_envelope any_count e) trust told (ended_of_own name.call outs)

-- The receive that a step starts in its group, as this call. A Mprobe takes its message itself, and an Improbe once its
-- flag tells so. One that posts a request can be cancelled, and what a matched probe took can be given back.
abbrev pub taken_by : Group → OpName → Step → List Step → Call → Option Receive
taken_by g name s later (Recv e) = taken_with g name e Sure (told_of_own g.members s.entry.outs) (ended_of_own name.call s.entry.outs)
taken_by g name s later (Sendrecv x) = taken_with g name x.receive Sure (told_of_own g.members s.entry.outs) (ended_of_own name.call s.entry.outs)
taken_by g name s later (Irecv e) = taken_with g name e (trust_of_receive g.members later (posted_by s)) (told_of_post g.members later (posted_by s)) (ended_of_post later (posted_by s))
taken_by g name s later (Mprobe e) = matched_with g name e (trust_of_probe later) (told_of_own g.members s.entry.outs) s.entry.outs
taken_by g name s later (Improbe e) = if has_taken s.entry.outs then matched_with g name e (trust_of_probe later) (told_of_flag g.members s.entry.outs) s.entry.outs else None
taken_by g name s later call = None

-- the receive of a step, where the layout has the communicator that it names
abbrev pub receive_in : Option Group → OpName → Placed → Option Receive
receive_in None name p = None
receive_in (Some g) name p = taken_by g name p.step p.later (starting p.step)

-- The receive that a step starts. Foreign calls start none, and so does the start of a foreign init.
abbrev pub receive_of : Parts → ℕ → Placed → Option Receive
receive_of layout rank p = receive_in (group_of layout rank (naming p.step) (starting p.step)) (name_of rank p.step) p

-- the receives of a rank's steps, in their order
abbrev pub receives_of : Parts → ℕ → List Step → List Receive
receives_of layout rank steps = filter_map (receive_of layout rank) (placed steps)
