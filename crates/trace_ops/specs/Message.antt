-- The messages of a rank (MPI 4.0, 3.2.1 to 3.2.3, and 3.7.2, 3.8.4, 3.9 and 3.10).
use Rattle.std.specs.Prelude.{ℕ, Option, Some, None, List, slice_get}
use Rattle.std.specs.List.{filter_map}
use Rattle.std.specs.Option.{option_map, option_and_then}
use Rattle.mpi_model.specs.declared.envelope.Envelope.{Envelope}
use Rattle.mpi_model.specs.declared.envelope.Mode.{Mode}
use Rattle.mpi_model.specs.declared.envelope.Mode.TheVariants.{Standard}
use Rattle.mpi_model.specs.declared.call.Call.{Call}
use Rattle.mpi_model.specs.declared.call.Call.TheVariants.{Send, Isend, Sendrecv}
use Rattle.mpi_model.specs.declared.event.OpName.{OpName}
use Rattle.mpi_model.specs.declared.message.Message.{Message}
use Rattle.mpi_model.specs.declared.message.Trust.{Trust}
use Rattle.mpi_model.specs.declared.message.Trust.TheVariants.{Sure}
use Rattle.mpi_model.specs.Layouts.{Parts}
use Rattle.trace_ops.specs.Foreign.{Group, group_of, peer_rank}
use Rattle.trace_ops.specs.Steps.{Placed, Step, name_of, naming, placed, posted_by, starting}
use Rattle.trace_ops.specs.Trust.{trust_of_send}

-- the tag of a send, which always names one
abbrev pub tag_of : Option ℕ → ℕ
tag_of None = 0
tag_of (Some tag) = tag

-- the message of a call's envelope to a rank of the trace
abbrev pub message_to : Group → OpName → Mode → Envelope → Trust → ℕ → Message
message_to g name mode e trust to = record {
  name = name;
  comm = g.comm;
  from = name.rank;
  to = to;
  tag = tag_of e.tag;
  mode = mode;
  trust = trust;
  count = e.count;
  datatype = e.datatype;
}

-- the message of a send to a rank of the group; a send to the null process moves nothing
abbrev pub sent_with : Group → OpName → Mode → Envelope → Trust → Option Message
sent_with g name mode e trust = option_map (message_to g name mode e trust) (option_and_then (slice_get g.members) (peer_rank e.peer))

-- The message that a step starts in its group, as this call. The send of a Sendrecv has standard mode. Only a send that
-- posts a request can be cancelled.
abbrev pub sent_by : Group → OpName → Step → List Step → Call → Option Message
sent_by g name s later (Send mode e) = sent_with g name mode e Sure
sent_by g name s later (Isend mode e) = sent_with g name mode e (trust_of_send later (posted_by s))
sent_by g name s later (Sendrecv x) = sent_with g name Standard x.send Sure
sent_by g name s later call = None

-- the message of a step, where the layout has the communicator that it names
abbrev pub message_in : Option Group → OpName → Placed → Option Message
message_in None name p = None
message_in (Some g) name p = sent_by g name p.step p.later (starting p.step)

-- The message that a step starts. Foreign calls start none, and so does the start of a foreign init.
abbrev pub message_of : Parts → ℕ → Placed → Option Message
message_of layout rank p = message_in (group_of layout rank (naming p.step) (starting p.step)) (name_of rank p.step) p

-- the messages of a rank's steps, in their order
abbrev pub sends_of : Parts → ℕ → List Step → List Message
sends_of layout rank steps = filter_map (message_of layout rank) (placed steps)
