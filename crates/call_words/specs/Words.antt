-- Calls in words.
use Rattle.std.specs.Prelude.{ℕ, ◌==◌, if◌then◌else◌, Bool, true, false, Option, Some, None, List, [], ◌++◌, codes, decimal, length}
use Rattle.mpi_model.specs.declared.envelope.Envelope.{Envelope}
use Rattle.mpi_model.specs.declared.envelope.CommRef.{CommRef}
use Rattle.mpi_model.specs.declared.envelope.CommRef.TheVariants.{World, Id}
use Rattle.mpi_model.specs.declared.envelope.Peer.{Peer}
use Rattle.mpi_model.specs.declared.envelope.Peer.TheVariants as peers
use Rattle.mpi_model.specs.declared.envelope.Mode.{Mode}
use Rattle.mpi_model.specs.declared.envelope.Mode.TheVariants as modes
use Rattle.mpi_model.specs.declared.kind.Kind.{Kind}
use Rattle.mpi_model.specs.declared.object.Object.{Object}
use Rattle.mpi_model.specs.declared.object.Object.TheVariants as objects
use Rattle.mpi_model.specs.declared.call.Call.{Call}
use Rattle.mpi_model.specs.declared.call.Call.TheVariants as calls
use Rattle.mpi_model.specs.Kinds.{KindFunction, function_name, row}
use Rattle.mpi_model.specs.Ranges.{BothEnvelopes, CollectiveCall, Probed}

-- What a call names. Peers and roots are ranks of the communicator's group.

-- a communicator by its number
abbrev pub id_text : ℕ → List ℕ
id_text number = codes "communicator " ++ decimal number

-- `MPI_COMM_WORLD`, or `communicator 5`
abbrev pub comm_text : CommRef → List ℕ
comm_text World = codes "MPI_COMM_WORLD"
comm_text (Id number) = id_text number

-- the sort of an object, before its number
abbrev pub object_word : Object → List ℕ
object_word objects.Communicator = codes "communicator "
object_word objects.Window = codes "window "
object_word objects.File = codes "file "

-- an object by its sort and its number
abbrev pub numbered_text : Object → ℕ → List ℕ
numbered_text object number = object_word object ++ decimal number

-- `MPI_COMM_WORLD`, or `window 5`
abbrev pub object_text : Object → CommRef → List ℕ
object_text object World = codes "MPI_COMM_WORLD"
object_text object (Id number) = numbered_text object number

-- a peer by its rank in the communicator that is named behind it
abbrev pub rank_of_text : ℕ → List ℕ
rank_of_text rank = codes "rank " ++ decimal rank ++ codes " of "

-- a peer up to its communicator
abbrev pub peer_front : Peer → List ℕ
peer_front peers.Any = codes "any rank of "
peer_front peers.Null = codes "MPI_PROC_NULL on "
peer_front (peers.Rank rank) = rank_of_text rank

-- `rank 1 of communicator 5`
abbrev pub peer_text : Peer → CommRef → List ℕ
peer_text peer comm = peer_front peer ++ comm_text comm

-- a tag that is named
abbrev pub one_tag_text : ℕ → List ℕ
one_tag_text tag = codes ", tag " ++ decimal tag

-- `, tag 7`, or `, any tag`
abbrev pub tag_text : Option ℕ → List ℕ
tag_text None = codes ", any tag"
tag_text (Some tag) = one_tag_text tag

-- one element, and else elements
abbrev pub elements_word : ℕ → List ℕ
elements_word count = if count == 1 then codes " element" else codes " elements"

-- `3 elements`, behind a head
abbrev pub count_text : List ℕ → ℕ → List ℕ
count_text head count = head ++ decimal count ++ elements_word count

-- ` to rank 1 of MPI_COMM_WORLD, tag 7, 3 elements`
abbrev pub sent_text : Envelope → List ℕ
sent_text e = codes " to " ++ peer_text e.peer e.comm ++ tag_text e.tag ++ count_text (codes ", ") e.count

-- ` from rank 1 of MPI_COMM_WORLD, tag 7, at most 3 elements`
abbrev pub received_text : Envelope → List ℕ
received_text e = codes " from " ++ peer_text e.peer e.comm ++ tag_text e.tag ++ count_text (codes ", at most ") e.count

-- what a Probe looks for
abbrev pub probed_text : Probed → List ℕ
probed_text e = codes " from " ++ peer_text e.source e.comm ++ tag_text e.tag

-- Names of functions

-- the function of a blocking send of a mode (MPI 4.0, 3.4)
abbrev pub send_name : Mode → List ℕ
send_name modes.Standard = codes "MPI_Send"
send_name modes.Synchronous = codes "MPI_Ssend"
send_name modes.Buffered = codes "MPI_Bsend"
send_name modes.Ready = codes "MPI_Rsend"

-- the function of a nonblocking send of a mode (MPI 4.0, 3.7.2)
abbrev pub immediate_name : Mode → List ℕ
immediate_name modes.Standard = codes "MPI_Isend"
immediate_name modes.Synchronous = codes "MPI_Issend"
immediate_name modes.Buffered = codes "MPI_Ibsend"
immediate_name modes.Ready = codes "MPI_Irsend"

-- the function that makes a persistent send of a mode (MPI 4.0, 3.9)
abbrev pub init_name : Mode → List ℕ
init_name modes.Standard = codes "MPI_Send_init"
init_name modes.Synchronous = codes "MPI_Ssend_init"
init_name modes.Buffered = codes "MPI_Bsend_init"
init_name modes.Ready = codes "MPI_Rsend_init"

-- by whether the function is nonblocking, and its kind
abbrev pub collective_name : Bool → Kind → List ℕ
collective_name nonblocking kind = function_name (record { kind = kind; nonblocking = nonblocking })

-- Calls

-- a call that sends, by its function and its envelope
abbrev pub send_text : List ℕ → Envelope → List ℕ
send_text name e = name ++ sent_text e

-- a call that receives, by its function and its envelope
abbrev pub receive_text : List ℕ → Envelope → List ℕ
receive_text name e = name ++ received_text e

-- a probe, by its function and what it looks for
abbrev pub probe_text : List ℕ → Probed → List ℕ
probe_text name e = name ++ probed_text e

-- a Sendrecv, by both of its envelopes
abbrev pub exchange_text : BothEnvelopes → List ℕ
exchange_text x = codes "MPI_Sendrecv" ++ sent_text x.send ++ codes ", and" ++ received_text x.receive

-- `MPI_Barrier on communicator 5`
abbrev pub on_text : List ℕ → CommRef → List ℕ
on_text name comm = name ++ codes " on " ++ comm_text comm

-- a root, by its rank in the communicator
abbrev pub one_root_text : ℕ → List ℕ
one_root_text root = codes ", root " ++ decimal root

-- the root of a call, where its kind has one
abbrev pub root_text : Option ℕ → List ℕ
root_text None = []
root_text (Some root) = one_root_text root

-- a collective call by its function and its root, as `MPI_Bcast, root 0`
abbrev pub kind_text : KindFunction → Option ℕ → List ℕ
kind_text function root = function_name function ++ root_text root

-- `MPI_Win_fence on window 5`
abbrev pub on_object_text : List ℕ → Object → CommRef → List ℕ
on_object_text name object comm = name ++ codes " on " ++ object_text object comm

-- a collective call by its function
abbrev pub called_text : KindFunction → CollectiveCall → List ℕ
called_text function c = on_object_text (function_name function) (row c.kind).object c.comm ++ root_text c.root

-- `MPI_Bcast on communicator 5, root 0`, or `MPI_Ibcast` where it is nonblocking
abbrev pub collective_text : Bool → CollectiveCall → List ℕ
collective_text nonblocking c = called_text (record { kind = c.kind; nonblocking = nonblocking }) c

-- `MPI_Waitall on 3 requests`
abbrev pub of_requests_text : List ℕ → ℕ → List ℕ
of_requests_text name count = name ++ codes " on " ++ decimal count ++ (if count == 1 then codes " request" else codes " requests")

-- a call by its function, with what it names
abbrev pub call_text : Call → List ℕ
call_text calls.Local = codes "a call of no other rank"
call_text calls.Finalize = codes "MPI_Finalize"
call_text (calls.Send mode e) = send_text (send_name mode) e
call_text (calls.Isend mode e) = send_text (immediate_name mode) e
call_text (calls.Recv e) = receive_text (codes "MPI_Recv") e
call_text (calls.Irecv e) = receive_text (codes "MPI_Irecv") e
call_text (calls.Sendrecv x) = exchange_text x
call_text (calls.Wait request) = codes "MPI_Wait on a request"
call_text (calls.Waitall requests) = of_requests_text (codes "MPI_Waitall") (length requests)
call_text (calls.Waitany requests) = of_requests_text (codes "MPI_Waitany") (length requests)
call_text (calls.Waitsome requests) = of_requests_text (codes "MPI_Waitsome") (length requests)
call_text (calls.Test request) = codes "MPI_Test on a request"
call_text (calls.Testall requests) = of_requests_text (codes "MPI_Testall") (length requests)
call_text (calls.Testany requests) = of_requests_text (codes "MPI_Testany") (length requests)
call_text (calls.Testsome requests) = of_requests_text (codes "MPI_Testsome") (length requests)
call_text (calls.Cancel request) = codes "MPI_Cancel on a request"
call_text (calls.Free request) = codes "MPI_Request_free on a request"
call_text (calls.Collective c) = collective_text false c
call_text (calls.Icollective c) = collective_text true c
call_text (calls.Probe e) = probe_text (codes "MPI_Probe") e
call_text (calls.SendInit mode e) = send_text (init_name mode) e
call_text (calls.RecvInit e) = receive_text (codes "MPI_Recv_init") e
call_text (calls.Start request) = codes "MPI_Start on a request"
call_text (calls.Startall requests) = of_requests_text (codes "MPI_Startall") (length requests)
call_text (calls.Mprobe e) = probe_text (codes "MPI_Mprobe") e
call_text (calls.Improbe e) = probe_text (codes "MPI_Improbe") e
call_text (calls.Iprobe e) = probe_text (codes "MPI_Iprobe") e
call_text calls.Imrecv = codes "MPI_Imrecv of a message"
call_text calls.Unread = codes "a call that is not read"
