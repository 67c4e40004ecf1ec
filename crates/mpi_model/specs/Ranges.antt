-- The ranges of what calls and outcomes hold. The greatest number is 2^31 - 1, that of an `int`.
use Rattle.std.specs.Prelude.{◌≡◌, ℕ, ◌<◌, ◌^◌, true, Option, Some, None, IfSome}
use Rattle.mpi_model.specs.declared.told.Told.{Told}
use Rattle.mpi_model.specs.declared.told.Told.TheVariants as tolds
use Rattle.mpi_model.specs.declared.envelope.Peer.{Peer}
use Rattle.mpi_model.specs.declared.envelope.Peer.TheVariants as peers
use Rattle.mpi_model.specs.declared.envelope.CommRef.{CommRef}
use Rattle.mpi_model.specs.declared.envelope.CommRef.TheVariants as comms
use Rattle.mpi_model.specs.declared.envelope.Envelope.{Envelope}
use Rattle.mpi_model.specs.declared.kind.Kind.{Kind}
use Rattle.mpi_model.specs.declared.object.Object.{Object}
use Rattle.mpi_model.specs.declared.object.Object.TheVariants.{Communicator}
use Rattle.mpi_model.specs.Kinds.{has_nonblocking, has_root, row}

-- what an outcome tells of a source
abbrev pub IsTold : Told → Type 0
IsTold tolds.Nothing = Unit {0}
IsTold (tolds.Source rank) = rank < 2 ^ 31
IsTold tolds.Cancelled = Unit {0}

-- a communicator: the world, or a number
abbrev pub IsComm : CommRef → Type 0
IsComm comms.World = Unit {0}
IsComm (comms.Id n) = n < 2 ^ 31

-- the peer of a send: the null process or a rank
abbrev pub IsTarget : Peer → Type 0
IsTarget peers.Any = ⊥
IsTarget peers.Null = Unit {0}
IsTarget (peers.Rank n) = n < 2 ^ 31

-- a number that is named, as the tag of a send and the root of a call have to be
abbrev pub IsNamed : Option ℕ → Type 0
IsNamed None = ⊥
IsNamed (Some n) = n < 2 ^ 31

-- the envelope of a send
abbrev pub IsSend : Envelope → Type 0
IsSend e = IsTarget e.peer × IsNamed e.tag × IsComm e.comm × (e.count < 2 ^ 31)

-- the peer of a receive
abbrev pub IsSource : Peer → Type 0
IsSource peers.Any = Unit {0}
IsSource peers.Null = Unit {0}
IsSource (peers.Rank n) = n < 2 ^ 31

-- the tag of a receive: any, or a number
abbrev pub IsAskedTag : Option ℕ → Type 0
IsAskedTag tag = IfSome tag (λ n. n < 2 ^ 31)

-- the envelope of a receive
abbrev pub IsReceive : Envelope → Type 0
IsReceive e = IsSource e.peer × IsAskedTag e.tag × IsComm e.comm × (e.count < 2 ^ 31)

-- what a probe looks for
pub record Probed : Type 0 where
  pub source : Peer
  pub tag : Option ℕ
  pub comm : CommRef

-- the values of a probe
abbrev pub IsProbe : Probed → Type 0
IsProbe e = IsSource e.source × IsAskedTag e.tag × IsComm e.comm

-- the two envelopes of a Sendrecv
pub record BothEnvelopes : Type 0 where
  pub send : Envelope
  pub receive : Envelope

-- the two envelopes are of one communicator (MPI 4.0, 3.10)
abbrev pub IsExchange : BothEnvelopes → Type 0
IsExchange e = IsSend e.send × IsReceive e.receive × (e.send.comm ≡ e.receive.comm)

-- a collective call; where a window or a file is its object, that one's number stands in the place of a communicator's
pub record CollectiveCall : Type 0 where
  pub kind : Kind
  pub root : Option ℕ
  pub comm : CommRef

-- A root is named only where the kind has one. A call of such a kind that names no rank of its group names `MPI_ROOT`,
-- `MPI_PROC_NULL` or a number below 0 (MPI 4.0, 6.2.3).
abbrev pub IsRootOf : Kind → Option ℕ → Type 0
IsRootOf kind None = Unit {0}
IsRootOf kind (Some root) = (has_root kind ≡ true) × (root < 2 ^ 31)

-- Only a communicator is named as the world.
abbrev pub IsNamedAs : Object → CommRef → Type 0
IsNamedAs object comms.World = object ≡ Communicator
IsNamedAs object (comms.Id n) = Unit {0}

-- the values of a collective call
abbrev pub IsCollective : CollectiveCall → Type 0
IsCollective c = IsRootOf c.kind c.root × IsComm c.comm × IsNamedAs (row c.kind).object c.comm

-- those of a nonblocking one: its kind has such a function
abbrev pub IsIcollective : CollectiveCall → Type 0
IsIcollective c = IsCollective c × (has_nonblocking c.kind ≡ true)
