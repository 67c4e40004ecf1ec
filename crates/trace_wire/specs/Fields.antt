-- The fields of calls and outcomes, as forms.
use Rattle.std.specs.Prelude.{ℕ, Bool, true, false, List, [], ◌∷◌, Option, Some, None, nat_le, not, ◌==◌, ◌&&◌, if◌then◌else◌}
use Rattle.std.specs.Int.{w32, w64}
use Rattle.mpi_model.specs.Times.{Times, latest}
use Rattle.mpi_model.specs.Kinds.{has_nonblocking, has_root, kind_number, kind_of, object_number, row}
use Rattle.mpi_model.specs.declared.object.Object.{Object}
use Rattle.mpi_model.specs.declared.object.Object.TheVariants.{Communicator}
use Rattle.mpi_model.specs.Ranges.{BothEnvelopes, CollectiveCall, Probed}
use Rattle.mpi_model.specs.declared.envelope.Peer.{Peer}
use Rattle.mpi_model.specs.declared.envelope.Peer.TheVariants as peers
use Rattle.mpi_model.specs.declared.envelope.CommRef.{CommRef}
use Rattle.mpi_model.specs.declared.envelope.CommRef.TheVariants as comms
use Rattle.mpi_model.specs.declared.envelope.Mode.{Mode}
use Rattle.mpi_model.specs.declared.envelope.Mode.TheVariants as modes
use Rattle.mpi_model.specs.declared.kind.Kind.{Kind}
use Rattle.mpi_model.specs.declared.kind.Kind.TheVariants as kinds
use Rattle.mpi_model.specs.declared.envelope.Envelope.{Envelope}
use Rattle.mpi_model.specs.declared.list.elements.Element.{Element}
use Rattle.mpi_model.specs.declared.told.Told.{Told}
use Rattle.mpi_model.specs.declared.told.Told.TheVariants as tolds
use Rattle.trace_wire.specs.Forms.{◌>>=◌, Form, number, byte, mapped, guarded, pair, small, marked, no_number, signed, small_of}

-- ---- codes of the fields

-- the mark of the null process: 2^32 - 2
abbrev pub null_process : ℕ
null_process = 4294967294

-- the mark of an operation that was cancelled: 2^32 - 2 again
abbrev pub cancelled : ℕ
cancelled = 4294967294

-- a peer: a rank, or a mark for any source or for the null process (MPI 4.0, 3.2.4 and 3.10)
abbrev pub peer_code : Peer → ℕ
peer_code peers.Any = no_number
peer_code peers.Null = null_process
peer_code (peers.Rank n) = n

-- the peer of a code, where it is one
abbrev pub peer_of : ℕ → Option Peer
peer_of n = if n == no_number then Some peers.Any else (if n == null_process then Some peers.Null else (small_of n >>= λ m. Some (peers.Rank m)))

-- what is told: a source, or a mark that nothing is told, or that the operation was cancelled (MPI 4.0, 3.2.5 and
-- 3.8.4)
abbrev pub told_code : Told → ℕ
told_code tolds.Nothing = no_number
told_code tolds.Cancelled = cancelled
told_code (tolds.Source n) = n

-- what is told, by its code, where it is one
abbrev pub told_of : ℕ → Option Told
told_of n = if n == no_number then Some tolds.Nothing else (if n == cancelled then Some tolds.Cancelled else (small_of n >>= λ m. Some (tolds.Source m)))

-- a communicator: its number, or a mark for MPI_COMM_WORLD
abbrev pub comm_code : CommRef → ℕ
comm_code comms.World = no_number
comm_code (comms.Id n) = n

-- the communicator of a code, where it is one
abbrev pub comm_of : ℕ → Option CommRef
comm_of n = if n == no_number then Some comms.World else (small_of n >>= λ m. Some (comms.Id m))

-- the mode of a send (MPI 4.0, 3.4)
abbrev pub mode_code : Mode → ℕ
mode_code modes.Standard = 0
mode_code modes.Synchronous = 1
mode_code modes.Buffered = 2
mode_code modes.Ready = 3

-- the mode of a code, where it is one
abbrev pub mode_of : ℕ → Option Mode
mode_of n =
    if n == 0 then Some modes.Standard else (
    if n == 1 then Some modes.Synchronous else (
    if n == 2 then Some modes.Buffered else (
    if n == 3 then Some modes.Ready else None)))

-- whether a test found its request completed
abbrev pub flag_code : Bool → ℕ
flag_code false = 0
flag_code true = 1

-- the flag of a code, where it is one
abbrev pub flag_of : ℕ → Option Bool
flag_of n = if n == 0 then Some false else (if n == 1 then Some true else None)

-- ---- fields, one line each

-- a peer, as a number of four bytes
abbrev pub peer : Form Peer
peer = mapped (number w32) peer_code peer_of

-- what is told, as a number of four bytes
abbrev pub told : Form Told
told = mapped (number w32) told_code told_of

-- a communicator, as a number of four bytes
abbrev pub comm : Form CommRef
comm = mapped (number w32) comm_code comm_of

-- a mode, as one byte
abbrev pub mode : Form Mode
mode = mapped byte mode_code mode_of

-- a kind, as one byte
abbrev pub kind : Form Kind
kind = mapped byte kind_number kind_of

-- a flag, as one byte
abbrev pub flag : Form Bool
flag = mapped byte flag_code flag_of

-- a time in nanoseconds
abbrev pub moment : Form ℕ
moment = guarded (number w64) (λ n. nat_le n latest)

-- the times of an event: wall-clock time, and then CPU time
abbrev pub stamp : Form Times
stamp = mapped (pair moment moment) (λ t. (t.wall, t.cpu)) (λ x. Some (record { wall = x.0; cpu = x.1 }))

-- the envelope of a receive: peer, tag, communicator, count, datatype
abbrev pub envelope : Form Envelope
envelope = mapped (pair peer (pair marked (pair comm (pair small signed))))
    (λ e. (e.peer, (e.tag, (e.comm, (e.count, e.datatype)))))
    (λ x. Some (record { peer = x.0; tag = x.1.0; comm = x.1.1.0; count = x.1.1.1.0; datatype = x.1.1.1.1 }))

-- A send names its peer and its tag.
abbrev pub named : Peer → Option ℕ → Bool
named peers.Any tag = false
named peers.Null None = false
named peers.Null (Some n) = true
named (peers.Rank r) None = false
named (peers.Rank r) (Some n) = true

-- the envelope of a send, which names its peer and its tag
abbrev pub send_envelope : Form Envelope
send_envelope = guarded envelope (λ e. named e.peer e.tag)

-- Two calls name one communicator. MPI_COMM_WORLD and the number that a layout gives to it are two names.
abbrev pub same_comm : CommRef → CommRef → Bool
same_comm comms.World comms.World = true
same_comm (comms.Id m) (comms.Id n) = m == n
same_comm comms.World (comms.Id n) = false
same_comm (comms.Id n) comms.World = false

-- the envelopes of a Sendrecv: one communicator (MPI 4.0, 3.10)
abbrev pub exchange : Form BothEnvelopes
exchange = mapped (guarded (pair send_envelope envelope) (λ x. same_comm x.0.comm x.1.comm))
    (λ b. (b.send, b.receive)) (λ x. Some (record { send = x.0; receive = x.1 }))

-- A kind without a root has the mark of none. A call of another kind may name none.
abbrev pub rooted : Kind → Option ℕ → Bool
rooted k None = true
rooted k (Some root) = has_root k

-- Only a communicator has the mark of MPI_COMM_WORLD.
abbrev pub named_as : Object → CommRef → Bool
named_as object comms.World = object_number object == object_number Communicator
named_as object (comms.Id n) = true

-- a collective call: kind, root, communicator, or in its place the number of a window or of a file
abbrev pub gathering : Form CollectiveCall
gathering = mapped (guarded (pair kind (pair marked comm)) (λ x. rooted x.0 x.1.0 && named_as (row x.0).object x.1.1))
    (λ g. (g.kind, (g.root, g.comm))) (λ x. Some (record { kind = x.0; root = x.1.0; comm = x.1.1 }))

-- MPI_Ibarrier is spelled by its communicator alone, and no other nonblocking call is.
abbrev pub is_barrier : Kind → Bool
is_barrier kind = kind_number kind == kind_number kinds.Barrier

-- MPI_Ibarrier: its communicator alone
abbrev pub ibarrier : Form CollectiveCall
ibarrier = mapped comm (λ g. g.comm) (λ c. Some (record { kind = kinds.Barrier; root = None; comm = c }))

-- every other nonblocking collective call, of a kind that has one
abbrev pub igathering : Form CollectiveCall
igathering = guarded gathering (λ g. not (is_barrier g.kind) && has_nonblocking g.kind)

-- what a probe looks for: peer, tag, communicator
abbrev pub probe : Form Probed
probe = mapped (pair peer (pair marked comm)) (λ e. (e.source, (e.tag, e.comm))) (λ x. Some (record { source = x.0; tag = x.1.0; comm = x.1.1 }))

-- a value made of what was read
abbrev pub made : {A B : Type 0} → (A → B) → Option (A × List ℕ) → Option (B × List ℕ)
made make found = found >>= λ x. Some (make x.0, x.1)

-- a position where there is one
abbrev pub index_fields : Option ℕ → List ℕ
index_fields None = 0 ∷ []
index_fields (Some i) = 1 ∷ (number w32).spell i

-- a position in front of bytes, by the byte before it: 0 where there is none, and 1 where there is one
abbrev pub index_at : ℕ → List ℕ → Option (Option ℕ × List ℕ)
index_at code bytes =
    if code == 0 then Some (None, bytes) else (
    if code == 1 then made (λ i. Some i) ((number w32).read bytes) else None)

-- that byte, and the position behind it
abbrev pub index_behind : List ℕ → Option (Option ℕ × List ℕ)
index_behind bytes = do
  code ← byte.read bytes
  index_at code.0 code.1

-- a position where there is one, with a byte before it that says so
abbrev pub index : Form (Option ℕ)
index = record { spell = index_fields; read = index_behind }

-- a request that was completed: its position, and what is told
abbrev pub element : Form Element
element = mapped (pair (number w32) told) (λ e. (e.position, e.told)) (λ x. Some (record { position = x.0; told = x.1 }))
