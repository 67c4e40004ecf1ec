-- The parts of which conditions are made: a send, a receive, a probe.
use Rattle.std.specs.Prelude.{◌≡◌, ℕ, Bool, true, false, ◌==◌, ◌&&◌, ◌||◌, Option, Some, None, is_some, List, [], map, unwrap_or, if◌then◌else◌}
use Rattle.std.specs.List.{list_any, find}
use Rattle.mpi_model.specs.Layouts.{Parts}
use Rattle.mpi_model.specs.Communicators.{members_of, peers_of}
use Rattle.mpi_model.specs.declared.layout.Sends.{Sends}
use Rattle.mpi_model.specs.declared.layout.Sends.TheVariants as sends
use Rattle.mpi_model.specs.declared.envelope.Mode.{Mode}
use Rattle.mpi_model.specs.declared.envelope.Mode.TheVariants.{Standard, Synchronous, Buffered, Ready}
use Rattle.trace_stuck.specs.Shape.{Wait, OnNothing, OnRank, OnOne, waits_of}
use Rattle.mpi_model.specs.declared.event.OpName.{OpName}
use Rattle.mpi_model.specs.declared.message.Message.{Message}
use Rattle.mpi_model.specs.declared.message.Receive.{Receive}
use Rattle.trace_pair.specs.declared.pair.Pair.{Pair}
use Rattle.trace_wait.specs.declared.round.Round.{Round}
use Rattle.trace_ops.specs.Ops.{Ops}
use Rattle.trace_ops.specs.Order.{Has}
use Rattle.trace_pair.specs.Table.{given_by, receives_of, sends_of, taken_by}
use Rattle.mpi_model.specs.Fit.{envelopes_fit, fits}
use Rattle.trace_wait.specs.Matching.{may_take, unpaired_messages, unpaired_receives}
use Rattle.trace_wait.specs.Ranks.{ops_of}

-- what the conditions are made from
pub record Run : Type 0 where
  pub layout : Parts
  pub ops : List Ops
  pub pairs : List Pair
  pub rounds : List Round

-- the members of a communicator, as trace ranks in group order; of an intercommunicator those of both groups
abbrev pub members : Run → ℕ → List ℕ
members s c = unwrap_or (members_of s.layout.comms c) []

-- those whose ranks a rank names there: all members, or on an intercommunicator the other group (MPI 4.0, 7.6)
abbrev pub peers_on : Run → ℕ → ℕ → List ℕ
peers_on s c r = unwrap_or (peers_of s.layout.comms c r) []

-- the send is buffered, or it is standard or ready where sends are buffered
abbrev pub is_buffered : Sends → Mode → Bool
is_buffered how Buffered = true
is_buffered how Synchronous = false
is_buffered sends.Buffer Standard = true
is_buffered sends.Buffer Ready = true
is_buffered sends.Wait Standard = false
is_buffered sends.Wait Ready = false

-- A send may go on where it is buffered, is paired, or may be taken by an unpaired receive; else it waits for its
-- destination.
abbrev pub may_send : Run → Message → Bool
may_send s m = is_buffered s.layout.sends m.mode || is_some (taken_by s.pairs m.name) || list_any (may_take s.ops m) (unpaired_receives s.ops s.pairs)

-- what a send waits for: its destination, or nothing
abbrev pub send_part : Run → Message → Wait
send_part s m = if may_send s m then OnNothing else OnRank m.to

-- the source that a receive waits for: the told one, or one of all whom its rank may name
abbrev pub source_part : Run → Receive → Wait
source_part s q = from q.source
  where
    from : Option ℕ → Wait
    from (Some r) = OnRank r
    from None = OnOne (waits_of (map OnRank (peers_on s q.comm q.at)))

-- A receive may go on where it is paired, or an unpaired message fits it; else it waits for its source.
abbrev pub may_receive : Run → Receive → Bool
may_receive s q = is_some (given_by s.pairs q.name) || list_any (λ m. fits m q) (unpaired_messages s.ops s.pairs)

-- what a receive waits for: its source, or nothing
abbrev pub receive_part : Run → Receive → Wait
receive_part s q = if may_receive s q then OnNothing else source_part s q

-- A probe may return where an unpaired message fits it, read as a receive; else it waits for its source. A message that
-- was cancelled may have been probed before (MPI 4.0, 3.8.1). A probe of the null process looks for none.
abbrev pub may_probe : Run → Receive → Bool
may_probe s q = list_any (λ m. envelopes_fit m q) (unpaired_messages s.ops s.pairs)

-- what a Probe waits for: its source, or nothing
abbrev pub probe_part : Run → Option Receive → Wait
probe_part s None = OnNothing
probe_part s (Some q) = if may_probe s q then OnNothing else source_part s q

-- Of two names of one rank: they are of one call, and of one part of it.
abbrev pub is_of : OpName → OpName → Bool
is_of name other = (other.call == name.call) && (other.part == name.part)

-- the send of a name of a rank: there is none where it is of the null process or local
abbrev pub send_of : Ops → OpName → Option Message
send_of o name = find (λ m. is_of name m.name) o.sends

-- the receive of a name of a rank
abbrev pub receive_of : Ops → OpName → Option Receive
receive_of o name = find (λ q. is_of name q.name) o.receives

-- Each message that a rank made is the one of its name.
abbrev pub AreMessagesFound : List Ops → Type 0
AreMessagesFound ops = (m : Message) → Has (sends_of ops) m → send_of (ops_of ops m.name.rank) m.name ≡ Some m

-- Each receive that a rank posted is the one of its name.
abbrev pub AreReceivesFound : List Ops → Type 0
AreReceivesFound ops = (q : Receive) → Has (receives_of ops) q → receive_of (ops_of ops q.name.rank) q.name ≡ Some q

-- the operation of a rank's call, which is no Startall
abbrev pub named : ℕ → ℕ → OpName
named r n = record { rank = r; call = n; part = 0 }

-- what the send of a call waits for: nothing where it started no message
abbrev pub send_of_call : Run → ℕ → Ops → ℕ → Wait
send_of_call s r o n = part (send_of o (named r n))
  where
    part : Option Message → Wait
    part (Some m) = send_part s m
    part None = OnNothing

-- what the receive of a call waits for: nothing where it posted none
abbrev pub receive_of_call : Run → ℕ → Ops → ℕ → Wait
receive_of_call s r o n = part (receive_of o (named r n))
  where
    part : Option Receive → Wait
    part (Some q) = receive_part s q
    part None = OnNothing
