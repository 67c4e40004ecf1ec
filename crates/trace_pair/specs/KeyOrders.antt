-- The orders of calls and of the keys of an index: by the parts in turn.
use Rattle.std.specs.Prelude.{ℕ, Bool, Option}
use Rattle.std.specs.declared.cmp.Ordering.{Ordering}
use Rattle.std.specs.Ordering.{nat_cmp, int_cmp, ordering_then}
use Rattle.std.specs.Option.{option_cmp}
use Rattle.mpi_model.specs.declared.envelope.Mode.{Mode}
use Rattle.mpi_model.specs.contracts.envelope.ModeOrd.TheImpl as mode_ord
use Rattle.mpi_model.specs.contracts.message.ReceivePartialEq.TheImpl as receive_eq
use Rattle.mpi_model.specs.contracts.message.TrustOrd.TheImpl as trust_ord
use Rattle.mpi_model.specs.declared.event.OpName.{OpName}
use Rattle.mpi_model.specs.declared.message.Message.{Message}
use Rattle.mpi_model.specs.declared.message.Receive.{Receive}
use Rattle.mpi_model.specs.declared.message.Trust.{Trust}

-- operations by their ranks, then by their calls, and then by their parts
abbrev pub name_cmp : OpName → OpName → Ordering
name_cmp a b = ordering_then (nat_cmp a.rank b.rank) (ordering_then (nat_cmp a.call b.call) (nat_cmp a.part b.part))

-- modes, in the order of their type
abbrev pub mode_cmp : Mode → Mode → Ordering
mode_cmp = (mode_ord.ghosts).cmp

-- trusts, in the order of their type
abbrev pub trust_cmp : Trust → Trust → Ordering
trust_cmp = (trust_ord.ghosts).cmp

-- messages by their names, and then by all else
abbrev pub message_cmp : Message → Message → Ordering
message_cmp a b = ordering_then (name_cmp a.name b.name) (ordering_then (nat_cmp a.comm b.comm) (ordering_then (nat_cmp a.from b.from) (ordering_then (nat_cmp a.to b.to) (ordering_then (nat_cmp a.tag b.tag) (ordering_then (mode_cmp a.mode b.mode) (ordering_then (trust_cmp a.trust b.trust) (ordering_then (nat_cmp a.count b.count) (int_cmp a.datatype b.datatype))))))))

-- receives by their names, and then by all else
abbrev pub receive_cmp : Receive → Receive → Ordering
receive_cmp a b = ordering_then (name_cmp a.name b.name) (ordering_then (nat_cmp a.comm b.comm) (ordering_then (nat_cmp a.at b.at) (ordering_then (option_cmp nat_cmp a.source b.source) (ordering_then (option_cmp nat_cmp a.tag b.tag) (ordering_then (nat_cmp a.count b.count) (ordering_then (trust_cmp a.trust b.trust) (ordering_then (int_cmp a.datatype b.datatype) (option_cmp nat_cmp a.ended b.ended))))))))

-- receives that are equal in every part
abbrev pub same_receive : Receive → Receive → Bool
same_receive = (receive_eq.ghosts).eq

-- receiver, sender, tag and communicator: what tells most keys apart comes first
abbrev pub Queue : Type 0
Queue = ℕ × ℕ × ℕ × ℕ

-- queues by their numbers, one after another
abbrev pub queue_cmp : Queue → Queue → Ordering
queue_cmp a b = ordering_then (ordering_then (ordering_then (nat_cmp a.0 b.0) (nat_cmp a.1 b.1)) (nat_cmp a.2 b.2)) (nat_cmp a.3 b.3)

-- the queue of a message: its destination, sender, tag and communicator
abbrev pub queue_of : Message → Queue
queue_of m = (m.to, m.from, m.tag, m.comm)

-- receiver, sender and communicator
abbrev pub Lane : Type 0
Lane = ℕ × ℕ × ℕ

-- lanes by their numbers, one after another
abbrev pub lane_cmp : Lane → Lane → Ordering
lane_cmp a b = ordering_then (ordering_then (nat_cmp a.0 b.0) (nat_cmp a.1 b.1)) (nat_cmp a.2 b.2)

-- the lane of a message: its destination, its sender and its communicator
abbrev pub lane_of : Message → Lane
lane_of m = (m.to, m.from, m.comm)

-- receiver, tag, source and communicator
abbrev pub ReceiveKey : Type 0
ReceiveKey = ℕ × Option ℕ × Option ℕ × ℕ

-- keys of receives by their numbers, one after another
abbrev pub receive_key_cmp : ReceiveKey → ReceiveKey → Ordering
receive_key_cmp a b = ordering_then (ordering_then (ordering_then (nat_cmp a.0 b.0) (option_cmp nat_cmp a.1 b.1)) (option_cmp nat_cmp a.2 b.2)) (nat_cmp a.3 b.3)

-- the key of a receive: its rank, tag, source and communicator
abbrev pub receive_key_of : Receive → ReceiveKey
receive_key_of q = (q.at, q.tag, q.source, q.comm)
