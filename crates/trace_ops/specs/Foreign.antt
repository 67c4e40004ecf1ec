-- The objects that calls name: communicators, windows and files; and the calls that the layout doesn't know.
use Rattle.std.specs.Prelude.{ℕ, Bool, true, false, ◌&&◌, ◌||◌, not, nat_lt, if◌then◌else◌, Option, Some, None, is_some, is_none, List, length}
use Rattle.std.specs.Option.{option_map, option_and_then}
use Rattle.mpi_model.specs.declared.envelope.Peer.{Peer}
use Rattle.mpi_model.specs.declared.envelope.Peer.TheVariants as peers
use Rattle.mpi_model.specs.declared.envelope.CommRef.{CommRef}
use Rattle.mpi_model.specs.Calls.{comm_of, object_of}
use Rattle.mpi_model.specs.declared.object.Object.{Object}
use Rattle.mpi_model.specs.declared.call.Call.{Call}
use Rattle.mpi_model.specs.declared.call.Call.TheVariants as calls
use Rattle.mpi_model.specs.declared.kind.Kind.{Kind}
use Rattle.mpi_model.specs.declared.kind.Kind.TheVariants.{IntercommMerge}
use Rattle.mpi_model.specs.Kinds.{has_root}
use Rattle.mpi_model.specs.Ranges.{CollectiveCall}
use Rattle.mpi_model.specs.Communicators.{is_inter, one_of, peers}
use Rattle.mpi_model.specs.Layouts.{Parts, named}

-- The group of an object as a rank sees it, and the object's id in the layout: ranks of the trace in the order of their
-- ranks in the group (MPI 4.0, 7.2.1). Of an intercommunicator, which has two, it is the one in which the rank isn't:
-- peers, told sources and roots are ranks in that (7.6).
pub record Group : Type 0 where
  pub comm : ℕ
  pub members : List ℕ
  pub inter : Bool

-- the group as a rank sees it of the object that has this id in the layout
abbrev pub group_at : Parts → ℕ → ℕ → Option Group
group_at layout rank comm = option_map (λ g. record { comm = comm; members = peers rank g; inter = is_inter g }) (one_of layout.comms comm)

-- The group of the object of this sort that call n of a rank names. It has one just where the layout says that the
-- rank, which is then a member, names an object of the sort so in that call.
abbrev pub group_named : Parts → ℕ → ℕ → Object → CommRef → Option Group
group_named layout rank n object comm = option_and_then (group_at layout rank) (named layout rank n object comm)

-- the rank in the group that a peer names
abbrev pub peer_rank : Peer → Option ℕ
peer_rank peers.Any = None
peer_rank peers.Null = None
peer_rank (peers.Rank n) = Some n

-- the rank, where one is named, is a rank in the group
abbrev pub is_within : List ℕ → Option ℕ → Bool
is_within members None = true
is_within members (Some n) = nat_lt n (length members)

-- The root is a rank in the group, where the kind of the call has one. `MPI_ROOT` and `MPI_PROC_NULL` name none in it,
-- and only calls on an intercommunicator name these (MPI 4.0, 6.2.3).
abbrev pub is_root_within : Group → CollectiveCall → Bool
is_root_within g c = is_within g.members c.root && (is_some c.root || not (has_root c.kind) || g.inter)

-- the kind of a MPI_Intercomm_merge
abbrev pub is_merge : Kind → Bool
is_merge IntercommMerge = true
is_merge kind = false

-- The root is within, and only an intercommunicator is merged (MPI 4.0, 7.6.2).
abbrev pub is_collective_within : Group → CollectiveCall → Bool
is_collective_within g c = is_root_within g c && (g.inter || not (is_merge c.kind))

-- the ranks that a call names, its peers or its root, are ranks in the group
abbrev pub are_within : Group → Call → Bool
are_within g (calls.Send mode e) = is_within g.members (peer_rank e.peer)
are_within g (calls.Isend mode e) = is_within g.members (peer_rank e.peer)
are_within g (calls.Recv e) = is_within g.members (peer_rank e.peer)
are_within g (calls.Irecv e) = is_within g.members (peer_rank e.peer)
are_within g (calls.Sendrecv x) = is_within g.members (peer_rank x.send.peer) && is_within g.members (peer_rank x.receive.peer)
are_within g (calls.Collective c) = is_collective_within g c
are_within g (calls.Icollective c) = is_collective_within g c
are_within g (calls.Probe e) = is_within g.members (peer_rank e.source)
are_within g (calls.SendInit mode e) = is_within g.members (peer_rank e.peer)
are_within g (calls.RecvInit e) = is_within g.members (peer_rank e.peer)
are_within g (calls.Mprobe e) = is_within g.members (peer_rank e.source)
are_within g (calls.Improbe e) = is_within g.members (peer_rank e.source)
are_within g (calls.Iprobe e) = is_within g.members (peer_rank e.source)
are_within g call = true

-- the group, where the ranks that the call names are within it
abbrev pub group_with : Call → Group → Option Group
group_with call g = if are_within g call then Some g else None

-- The group in which a call takes part: that of the object which it names, where its peers or its root are within.
abbrev pub group_of : Parts → ℕ → ℕ → Call → Option Group
group_of layout rank n call = option_and_then (group_with call) (option_and_then (group_named layout rank n (object_of call)) (comm_of call))

-- A foreign call: it names an object, and takes part in no group. The layout gives its rank no such communicator,
-- window or file, or its peer or root is outside. A Sendrecv is foreign as a whole.
abbrev pub is_foreign_in : Option Group → Call → Bool
is_foreign_in g call = is_some (comm_of call) && is_none g

-- Call n of a rank is foreign.
abbrev pub is_foreign : Parts → ℕ → ℕ → Call → Bool
is_foreign layout rank n call = is_foreign_in (group_of layout rank n call) call
