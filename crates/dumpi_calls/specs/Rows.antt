-- The table of functions: its callback, its entry and outcome parameters, and how these are read.
use Rattle.std.specs.Prelude.{ℕ, ◌-◌, List, [], ◌∷◌, length, take, drop, Option, Some, None, option_map, Result, Ok, Err, Bool, true, false, ◌||◌, ◌&&◌, codes, if◌then◌else◌}
use Rattle.std.specs.Str.{bytes_eq}
use Rattle.mpi_model.specs.Kinds.{KindFunction, all_kinds, function_name, has_nonblocking, has_root, row as kind_row}
use Rattle.mpi_model.specs.Ranges.{CollectiveCall, Probed}
use Rattle.mpi_model.specs.declared.call.Call.{Call}
use Rattle.mpi_model.specs.declared.call.Call.TheVariants as calls
use Rattle.mpi_model.specs.declared.kind.Kind.{Kind}
use Rattle.mpi_model.specs.declared.envelope.CommRef.{CommRef}
use Rattle.mpi_model.specs.declared.envelope.Envelope.{Envelope}
use Rattle.mpi_model.specs.declared.envelope.Mode.{Mode}
use Rattle.mpi_model.specs.declared.envelope.Mode.TheVariants.{Standard, Synchronous, Buffered, Ready}
use Rattle.mpi_model.specs.declared.event.Exit.{Exit}
use Rattle.mpi_model.specs.Times.{Times}
use Rattle.dumpi_text.specs.Call.{TextCall}
use Rattle.dumpi_calls.specs.Readings.{◌>>=◌, asked_tag_in, comm_in, dest_in, named_in, number_in, request_in, requests_in, non_negative_in, object_in, root_in, source_in, text_of}
use Rattle.dumpi_calls.specs.Outcomes.{index_where_set, outcome_in}
use Rattle.dumpi_calls.specs.declared.envelope.Part.{Part}
use Rattle.dumpi_calls.specs.declared.function.Function.{Function}
use Rattle.dumpi_calls.specs.declared.function.Function.TheVariants as functions
use Rattle.dumpi_calls.specs.declared.typing.TypedCall.{TypedCall}
use Rattle.dumpi_calls.specs.declared.parameter.CallFault.{CallFault}
use Rattle.dumpi_calls.specs.declared.parameter.CallFault.TheVariants.{Missing}
use Rattle.dumpi_calls.specs.declared.parameter.Parameter.{Parameter}
use Rattle.dumpi_calls.specs.declared.parameter.Parameter.TheVariants.{Count, Datatype, Dest, Source, Tag, Comm, SendCount, SendType, SendTag, RecvCount, RecvType, RecvTag, Root, Request, Requests, Index, Flag}

-- ---- names: they are compared byte for byte

-- blocking sends, by their mode (MPI 4.0, 3.4)
abbrev pub send_named : List ℕ → Option Function
send_named name =
    if bytes_eq name (codes "MPI_Send") then Some (functions.Send Standard)
    else if bytes_eq name (codes "MPI_Ssend") then Some (functions.Send Synchronous)
    else if bytes_eq name (codes "MPI_Bsend") then Some (functions.Send Buffered)
    else if bytes_eq name (codes "MPI_Rsend") then Some (functions.Send Ready)
    else None

-- nonblocking sends (MPI 4.0, 3.7.2)
abbrev pub isend_named : List ℕ → Option Function
isend_named name =
    if bytes_eq name (codes "MPI_Isend") then Some (functions.Isend Standard)
    else if bytes_eq name (codes "MPI_Issend") then Some (functions.Isend Synchronous)
    else if bytes_eq name (codes "MPI_Ibsend") then Some (functions.Isend Buffered)
    else if bytes_eq name (codes "MPI_Irsend") then Some (functions.Isend Ready)
    else None

-- receives and probes (MPI 4.0, 3.2.4, 3.7.2, 3.8.1 and 3.10)
abbrev pub receive_named : List ℕ → Option Function
receive_named name =
    if bytes_eq name (codes "MPI_Recv") then Some functions.Recv
    else if bytes_eq name (codes "MPI_Irecv") then Some functions.Irecv
    else if bytes_eq name (codes "MPI_Sendrecv") then Some functions.Sendrecv
    else if bytes_eq name (codes "MPI_Sendrecv_replace") then Some functions.SendrecvReplace
    else if bytes_eq name (codes "MPI_Probe") then Some functions.Probe
    else if bytes_eq name (codes "MPI_Iprobe") then Some functions.Iprobe
    else None

-- calls that wait for requests (MPI 4.0, 3.7.3 and 3.7.5)
abbrev pub completion_named : List ℕ → Option Function
completion_named name =
    if bytes_eq name (codes "MPI_Wait") then Some functions.Wait
    else if bytes_eq name (codes "MPI_Waitall") then Some functions.Waitall
    else if bytes_eq name (codes "MPI_Waitany") then Some functions.Waitany
    else if bytes_eq name (codes "MPI_Waitsome") then Some functions.Waitsome
    else None

-- calls that ask whether requests are complete (MPI 4.0, 3.7.3 and 3.7.5)
abbrev pub test_named : List ℕ → Option Function
test_named name =
    if bytes_eq name (codes "MPI_Test") then Some functions.Test
    else if bytes_eq name (codes "MPI_Testall") then Some functions.Testall
    else if bytes_eq name (codes "MPI_Testany") then Some functions.Testany
    else if bytes_eq name (codes "MPI_Testsome") then Some functions.Testsome
    else None

-- calls that give up a request (MPI 4.0, 3.7.3 and 3.8.4)
abbrev pub ending_named : List ℕ → Option Function
ending_named name =
    if bytes_eq name (codes "MPI_Cancel") then Some functions.Cancel
    else if bytes_eq name (codes "MPI_Request_free") then Some functions.Free
    else None

-- calls that make a persistent request (MPI 4.0, 3.9)
abbrev pub init_named : List ℕ → Option Function
init_named name =
    if bytes_eq name (codes "MPI_Send_init") then Some (functions.SendInit Standard)
    else if bytes_eq name (codes "MPI_Ssend_init") then Some (functions.SendInit Synchronous)
    else if bytes_eq name (codes "MPI_Bsend_init") then Some (functions.SendInit Buffered)
    else if bytes_eq name (codes "MPI_Rsend_init") then Some (functions.SendInit Ready)
    else if bytes_eq name (codes "MPI_Recv_init") then Some functions.RecvInit
    else None

-- calls that start persistent requests (MPI 4.0, 3.9)
abbrev pub start_named : List ℕ → Option Function
start_named name =
    if bytes_eq name (codes "MPI_Start") then Some functions.Start
    else if bytes_eq name (codes "MPI_Startall") then Some functions.Startall
    else None

-- matched probes, and the receive of what one took; with counts of 64 bits that is the same call (MPI 4.0, 3.8.2 and
-- 3.8.3)
abbrev pub matched_named : List ℕ → Option Function
matched_named name =
    if bytes_eq name (codes "MPI_Mprobe") then Some functions.Mprobe
    else if bytes_eq name (codes "MPI_Improbe") then Some functions.Improbe
    else if bytes_eq name (codes "MPI_Imrecv") then Some functions.Imrecv
    else if bytes_eq name (codes "MPI_Imrecv_c") then Some functions.Imrecv
    else None

-- the first of two functions that is there
abbrev pub first_of : Option Function → Option Function → Option Function
first_of (Some function) next = Some function
first_of None next = next

-- a name without a `_c` behind it: with that a function has counts of 64 bits, and its calls are the same (MPI 4.0, 6,
-- 8, 12 and 14)
abbrev pub short_name : List ℕ → List ℕ
short_name name = if bytes_eq (drop (length name - 2) name) (codes "_c") then take (length name - 2) name else name

-- The name is that of a collective function, where that has a form with counts of 64 bits also with a `_c` behind it.
abbrev pub is_called : List ℕ → KindFunction → Bool
is_called name f = bytes_eq (if (kind_row f.kind).has_long_form then short_name name else name) (function_name f)

-- the blocking function of a kind, and the nonblocking one
abbrev pub blocking_of : Kind → KindFunction
blocking_of kind = record { kind = kind; nonblocking = false }

abbrev pub nonblocking_of : Kind → KindFunction
nonblocking_of kind = record { kind = kind; nonblocking = true }

-- the function, where it passes
abbrev pub if_so : Bool → KindFunction → Option KindFunction
if_so true f = Some f
if_so false f = None

-- the function of a kind that has this name
abbrev pub called_of : List ℕ → Kind → Option KindFunction
called_of name kind =
    if is_called name (blocking_of kind) then Some (blocking_of kind)
    else if has_nonblocking kind then if_so (is_called name (nonblocking_of kind)) (nonblocking_of kind)
    else None

-- the first of two that is there
abbrev pub or_called : Option KindFunction → Option KindFunction → Option KindFunction
or_called (Some f) next = Some f
or_called None next = next

-- the first function of these kinds that has this name
abbrev pub first_called : List ℕ → List Kind → Option KindFunction
first_called name [] = None
first_called name (kind ∷ kinds) = or_called (called_of name kind) (first_called name kinds)

-- a collective communication, or any other collective function
abbrev pub function_of_called : KindFunction → Function
function_of_called f =
    if (kind_row f.kind).is_communication then (if f.nonblocking then functions.Icollective f.kind else functions.Collective f.kind)
    else functions.OnObject f.kind f.nonblocking

-- collective functions, by the table of their kinds; MPI has none that is named `MPI_Ibarrier_c`
unfoldable pub collective_named : List ℕ → Option Function
collective_named name = if bytes_eq name (codes "MPI_Ibarrier_c") then None else option_map function_of_called (first_called name all_kinds)

-- ---- functions that move messages and that no row reads: what follows a call of one isn't known

-- nonblocking exchanges and partitioned communication (MPI 4.0, 3.10 and 4)
abbrev pub is_unread_name : List ℕ → Bool
is_unread_name name =
    bytes_eq name (codes "MPI_Isendrecv")
    || bytes_eq name (codes "MPI_Isendrecv_replace")
    || bytes_eq name (codes "MPI_Psend_init")
    || bytes_eq name (codes "MPI_Precv_init")

-- sends with counts of 64 bits (MPI 4.0, 3.2.2)
abbrev pub is_long_send : List ℕ → Bool
is_long_send name =
    bytes_eq name (codes "MPI_Send_c")
    || bytes_eq name (codes "MPI_Ssend_c")
    || bytes_eq name (codes "MPI_Bsend_c")
    || bytes_eq name (codes "MPI_Rsend_c")
    || bytes_eq name (codes "MPI_Isend_c")
    || bytes_eq name (codes "MPI_Issend_c")
    || bytes_eq name (codes "MPI_Ibsend_c")
    || bytes_eq name (codes "MPI_Irsend_c")

-- receives and exchanges with such counts
abbrev pub is_long_receive : List ℕ → Bool
is_long_receive name =
    bytes_eq name (codes "MPI_Recv_c")
    || bytes_eq name (codes "MPI_Irecv_c")
    || bytes_eq name (codes "MPI_Sendrecv_c")
    || bytes_eq name (codes "MPI_Sendrecv_replace_c")
    || bytes_eq name (codes "MPI_Isendrecv_c")
    || bytes_eq name (codes "MPI_Isendrecv_replace_c")

-- persistent requests with such counts
abbrev pub is_long_init : List ℕ → Bool
is_long_init name =
    bytes_eq name (codes "MPI_Send_init_c")
    || bytes_eq name (codes "MPI_Ssend_init_c")
    || bytes_eq name (codes "MPI_Bsend_init_c")
    || bytes_eq name (codes "MPI_Rsend_init_c")
    || bytes_eq name (codes "MPI_Recv_init_c")

-- the function that no row reads, where the name is of one
abbrev pub unread_named : List ℕ → Option Function
unread_named name = if is_unread_name name || is_long_send name || is_long_receive name || is_long_init name then Some functions.Unread else None

-- every other function
abbrev pub other_named : List ℕ → Function
other_named name = if bytes_eq name (codes "MPI_Finalize") then functions.Finalize else functions.Other

-- the function, or the next one
abbrev pub or_else : Option Function → Function → Function
or_else (Some function) next = function
or_else None next = next

-- calls of messages and of requests
abbrev pub message_named : List ℕ → Option Function
message_named name = first_of (send_named name) (first_of (isend_named name) (first_of (receive_named name) (first_of (completion_named name) (test_named name))))

-- calls of persistent requests and of matched probes
abbrev pub persistent_named : List ℕ → Option Function
persistent_named name = first_of (init_named name) (first_of (start_named name) (matched_named name))

-- the function of a name
unfoldable pub function_named : List ℕ → Function
function_named name =
    or_else (message_named name) (or_else (collective_named name) (or_else (ending_named name) (or_else (persistent_named name) (or_else (unread_named name) (other_named name)))))

-- ---- envelopes (MPI 4.0, 3.2.3)

-- the parameters that a send has to have
abbrev pub send_parameters : List Parameter
send_parameters = Count ∷ Datatype ∷ Dest ∷ Tag ∷ Comm ∷ []

-- those of a receive
abbrev pub receive_parameters : List Parameter
receive_parameters = Count ∷ Datatype ∷ Source ∷ Tag ∷ Comm ∷ []

-- those of a Sendrecv, which is both
abbrev pub sendrecv_parameters : List Parameter
sendrecv_parameters = SendCount ∷ SendType ∷ Dest ∷ SendTag ∷ RecvCount ∷ RecvType ∷ Source ∷ RecvTag ∷ Comm ∷ []

-- those of an exchange in place: one count and one datatype for both sides (MPI 4.0, 3.10)
abbrev pub sendrecv_replace_parameters : List Parameter
sendrecv_replace_parameters = Count ∷ Datatype ∷ Dest ∷ SendTag ∷ Source ∷ RecvTag ∷ Comm ∷ []

-- those of a probe
abbrev pub probe_parameters : List Parameter
probe_parameters = Source ∷ Tag ∷ Comm ∷ []

-- those of a collective call, which has a root where its kind has one
abbrev pub collective_parameters : Kind → List Parameter
collective_parameters kind = if has_root kind then Root ∷ Comm ∷ [] else Comm ∷ []

-- what a send says apart from its communicator
unfoldable pub send_part : Parameter → Parameter → Parameter → TextCall → Result Part CallFault
send_part count datatype tag call = do
  elements ← non_negative_in count call
  element ← number_in datatype call
  peer ← dest_in call
  tag ← non_negative_in tag call
  Ok (record { count = elements; datatype = element.value; peer = peer; tag = Some tag })

-- what a receive asks for apart from its communicator
unfoldable pub receive_part : Parameter → Parameter → Parameter → TextCall → Result Part CallFault
receive_part count datatype tag call = do
  elements ← non_negative_in count call
  element ← number_in datatype call
  peer ← source_in call
  tag ← asked_tag_in tag call
  Ok (record { count = elements; datatype = element.value; peer = peer; tag = tag })

-- a part with its communicator
abbrev pub envelope_of : Part → CommRef → Envelope
envelope_of part comm = record { peer = part.peer; tag = part.tag; comm = comm; count = part.count; datatype = part.datatype }

-- the envelope of a send
unfoldable pub envelope_of_send : TextCall → Result Envelope CallFault
envelope_of_send call = do
  part ← send_part Count Datatype Tag call
  comm ← comm_in call
  Ok (envelope_of part comm)

-- the envelope of a receive
unfoldable pub envelope_of_receive : TextCall → Result Envelope CallFault
envelope_of_receive call = do
  part ← receive_part Count Datatype Tag call
  comm ← comm_in call
  Ok (envelope_of part comm)

-- ---- the readings of the entry parameters, in their order

-- a blocking send of a mode
unfoldable pub send_call : Mode → TextCall → Result Call CallFault
send_call mode call = do
  envelope ← envelope_of_send call
  Ok (calls.Send mode envelope)

-- a nonblocking send of a mode
unfoldable pub isend_call : Mode → TextCall → Result Call CallFault
isend_call mode call = do
  envelope ← envelope_of_send call
  Ok (calls.Isend mode envelope)

-- a blocking receive
unfoldable pub recv_call : TextCall → Result Call CallFault
recv_call call = do
  envelope ← envelope_of_receive call
  Ok (calls.Recv envelope)

-- a nonblocking receive
unfoldable pub irecv_call : TextCall → Result Call CallFault
irecv_call call = do
  envelope ← envelope_of_receive call
  Ok (calls.Irecv envelope)

-- a Sendrecv: a send and a receive on one communicator
unfoldable pub sendrecv_call : TextCall → Result Call CallFault
sendrecv_call call = do
  send ← send_part SendCount SendType SendTag call
  receive ← receive_part RecvCount RecvType RecvTag call
  comm ← comm_in call
  Ok (calls.Sendrecv (record { send = envelope_of send comm; receive = envelope_of receive comm }))

-- an exchange in place: a Sendrecv of one count and one datatype on both sides
unfoldable pub sendrecv_replace_call : TextCall → Result Call CallFault
sendrecv_replace_call call = do
  send ← send_part Count Datatype SendTag call
  receive ← receive_part Count Datatype RecvTag call
  comm ← comm_in call
  Ok (calls.Sendrecv (record { send = envelope_of send comm; receive = envelope_of receive comm }))

-- what a probe looks for
unfoldable pub probed_in : TextCall → Result Probed CallFault
probed_in call = do
  source ← source_in call
  tag ← asked_tag_in Tag call
  comm ← comm_in call
  Ok (record { source = source; tag = tag; comm = comm })

-- a probe
unfoldable pub probe_call : TextCall → Result Call CallFault
probe_call call = do
  probed ← probed_in call
  Ok (calls.Probe probed)

-- a matched probe that waits
unfoldable pub mprobe_call : TextCall → Result Call CallFault
mprobe_call call = do
  probed ← probed_in call
  Ok (calls.Mprobe probed)

-- a matched probe that doesn't wait
unfoldable pub improbe_call : TextCall → Result Call CallFault
improbe_call call = do
  probed ← probed_in call
  Ok (calls.Improbe probed)

-- a Wait for one request
unfoldable pub wait_call : TextCall → Result Call CallFault
wait_call call = do
  request ← request_in call
  Ok (calls.Wait request)

-- a Waitall for all requests of a list
unfoldable pub waitall_call : TextCall → Result Call CallFault
waitall_call call = do
  requests ← requests_in call
  Ok (calls.Waitall requests)

-- a Waitany for one of a list
unfoldable pub waitany_call : TextCall → Result Call CallFault
waitany_call call = do
  requests ← requests_in call
  Ok (calls.Waitany requests)

-- a Waitsome for some of a list
unfoldable pub waitsome_call : TextCall → Result Call CallFault
waitsome_call call = do
  requests ← requests_in call
  Ok (calls.Waitsome requests)

-- a Test of one request
unfoldable pub test_call : TextCall → Result Call CallFault
test_call call = do
  request ← request_in call
  Ok (calls.Test request)

-- a Testall of all requests of a list
unfoldable pub testall_call : TextCall → Result Call CallFault
testall_call call = do
  requests ← requests_in call
  Ok (calls.Testall requests)

-- a Testany of one of a list
unfoldable pub testany_call : TextCall → Result Call CallFault
testany_call call = do
  requests ← requests_in call
  Ok (calls.Testany requests)

-- a Testsome of some of a list
unfoldable pub testsome_call : TextCall → Result Call CallFault
testsome_call call = do
  requests ← requests_in call
  Ok (calls.Testsome requests)

-- a Cancel of a request
unfoldable pub cancel_call : TextCall → Result Call CallFault
cancel_call call = do
  request ← request_in call
  Ok (calls.Cancel request)

-- an MPI_Request_free of a request
unfoldable pub free_call : TextCall → Result Call CallFault
free_call call = do
  request ← request_in call
  Ok (calls.Free request)

-- a persistent send of a mode
unfoldable pub send_init_call : Mode → TextCall → Result Call CallFault
send_init_call mode call = do
  envelope ← envelope_of_send call
  Ok (calls.SendInit mode envelope)

-- a persistent receive
unfoldable pub recv_init_call : TextCall → Result Call CallFault
recv_init_call call = do
  envelope ← envelope_of_receive call
  Ok (calls.RecvInit envelope)

-- a Start of a persistent request
unfoldable pub start_call : TextCall → Result Call CallFault
start_call call = do
  request ← request_in call
  Ok (calls.Start request)

-- a Startall of persistent requests
unfoldable pub startall_call : TextCall → Result Call CallFault
startall_call call = do
  requests ← requests_in call
  Ok (calls.Startall requests)

-- what a collective call of a kind names
unfoldable pub collective_in : Kind → TextCall → Result CollectiveCall CallFault
collective_in kind call = do
  root ← root_in kind call
  comm ← named_in (kind_row kind).object call
  Ok (record { kind = kind; root = root; comm = comm })

-- a blocking collective call of a kind
unfoldable pub collective_call : Kind → TextCall → Result Call CallFault
collective_call kind call = do
  collective ← collective_in kind call
  Ok (calls.Collective collective)

-- the kind is a communication with a nonblocking function, as that of each nonblocking communication by its name is
abbrev pub is_started : Kind → Bool
is_started kind = has_nonblocking kind && (kind_row kind).is_communication

-- the call, where there is such a function
abbrev pub started_call : Bool → CollectiveCall → Call
started_call true collective = calls.Icollective collective
started_call false collective = calls.Local

-- its request
abbrev pub started_request : Bool → List Parameter
started_request true = Request ∷ []
started_request false = []

-- a nonblocking collective call of a kind
unfoldable pub icollective_call : Kind → TextCall → Result Call CallFault
icollective_call kind call = do
  collective ← collective_in kind call
  Ok (started_call (is_started kind) collective)

-- A collective call on an object, by whether its kind is a communication and has a nonblocking function, and whether
-- the call is nonblocking. No name is that of such a function of a communication, nor of a nonblocking one that isn't
-- there.
abbrev pub made_on : Bool → Bool → Bool → CollectiveCall → Call
made_on true has_nonblocking nonblocking collective = calls.Local
made_on false has_nonblocking false collective = calls.Collective collective
made_on false true true collective = calls.Icollective collective
made_on false false true collective = calls.Local

-- a collective call whose object was read, or a local one
abbrev pub object_or_local : Kind → Bool → Option CommRef → Call
object_or_local kind nonblocking None = calls.Local
object_or_local kind nonblocking (Some comm) =
    made_on (kind_row kind).is_communication (has_nonblocking kind) nonblocking (record { kind = kind; root = None; comm = comm })

-- a call of a collective function on an object: local where it doesn't name its object
unfoldable pub object_call : Kind → Bool → TextCall → Result Call CallFault
object_call kind nonblocking call = Ok (object_or_local kind nonblocking (object_in kind call))

-- a probe that was read, or a local call
abbrev pub probe_or_local : Result Probed CallFault → Call
probe_or_local (Ok probed) = calls.Iprobe probed
probe_or_local (Err fault) = calls.Local

-- a probe that doesn't wait: local where it doesn't say what it looks for
unfoldable pub iprobe_call : TextCall → Result Call CallFault
iprobe_call call = Ok (probe_or_local (probed_in call))

-- ---- the table

-- the callback of a function; those of the functions that aren't read and of all others are told the function's name
pub data Callback : Type 0 where
  OnSend : Callback
  OnIsend : Callback
  OnRecv : Callback
  OnIrecv : Callback
  OnSendrecv : Callback
  OnProbe : Callback
  OnWait : Callback
  OnWaitall : Callback
  OnWaitany : Callback
  OnWaitsome : Callback
  OnTest : Callback
  OnTestall : Callback
  OnTestany : Callback
  OnTestsome : Callback
  OnCancel : Callback
  OnRequestFree : Callback
  OnCollective : Callback
  OnIcollective : Callback
  OnSendInit : Callback
  OnRecvInit : Callback
  OnStart : Callback
  OnStartall : Callback
  OnMprobe : Callback
  OnImprobe : Callback
  OnIprobe : Callback
  OnImrecv : Callback
  OnUnread : (name : List ℕ) → Callback
  OnOther : (name : List ℕ) → Callback

-- A row: the callback, by the call that was read; the parameters that have to be there, those of the outcome where the
-- call returned, by what it says itself; and how the entry parameters are read. `status`, `statuses` and `indices` may
-- be absent.
pub record Row : Type 0 where
  pub callback : Call → Callback
  pub entry : List Parameter
  pub outcome : TextCall → List Parameter
  pub call : TextCall → Result Call CallFault

-- the same callback whatever a call says
abbrev pub always_told : Callback → Call → Callback
always_told callback call = callback

-- the callback of a collective call on an object: that of other functions where it is local
abbrev pub object_told : List ℕ → Call → Callback
object_told name calls.Local = OnOther name
object_told name (calls.Icollective collective) = OnIcollective
object_told name _ = OnCollective

-- the callback of an Iprobe
abbrev pub iprobe_told : List ℕ → Call → Callback
iprobe_told name calls.Local = OnOther name
iprobe_told name _ = OnIprobe

-- the same outcome parameters whatever a call says
abbrev pub always : List Parameter → TextCall → List Parameter
always parameters raw = parameters

-- the row of a function; its name is told to the callbacks of those that aren't read and of all others
abbrev pub row : Function → List ℕ → Row
row (functions.Send mode) name = record { callback = always_told OnSend; entry = send_parameters; outcome = always []; call = send_call mode }
row (functions.Isend mode) name = record { callback = always_told OnIsend; entry = send_parameters; outcome = always (Request ∷ []); call = isend_call mode }
row functions.Recv name = record { callback = always_told OnRecv; entry = receive_parameters; outcome = always []; call = recv_call }
row functions.Irecv name = record { callback = always_told OnIrecv; entry = receive_parameters; outcome = always (Request ∷ []); call = irecv_call }
row functions.Sendrecv name = record { callback = always_told OnSendrecv; entry = sendrecv_parameters; outcome = always []; call = sendrecv_call }
row functions.SendrecvReplace name = record { callback = always_told OnSendrecv; entry = sendrecv_replace_parameters; outcome = always []; call = sendrecv_replace_call }
row functions.Probe name = record { callback = always_told OnProbe; entry = probe_parameters; outcome = always []; call = probe_call }
row functions.Iprobe name = record { callback = iprobe_told name; entry = []; outcome = always []; call = iprobe_call }
row functions.Wait name = record { callback = always_told OnWait; entry = Request ∷ []; outcome = always []; call = wait_call }
row functions.Waitall name = record { callback = always_told OnWaitall; entry = Requests ∷ []; outcome = always []; call = waitall_call }
row functions.Waitany name = record { callback = always_told OnWaitany; entry = Requests ∷ []; outcome = always (Index ∷ []); call = waitany_call }
row functions.Waitsome name = record { callback = always_told OnWaitsome; entry = Requests ∷ []; outcome = always []; call = waitsome_call }
row functions.Test name = record { callback = always_told OnTest; entry = Request ∷ []; outcome = always (Flag ∷ []); call = test_call }
row functions.Testall name = record { callback = always_told OnTestall; entry = Requests ∷ []; outcome = always (Flag ∷ []); call = testall_call }
row functions.Testany name = record { callback = always_told OnTestany; entry = Requests ∷ []; outcome = λ raw. Flag ∷ index_where_set raw; call = testany_call }
row functions.Testsome name = record { callback = always_told OnTestsome; entry = Requests ∷ []; outcome = always []; call = testsome_call }
row functions.Cancel name = record { callback = always_told OnCancel; entry = Request ∷ []; outcome = always []; call = cancel_call }
row functions.Free name = record { callback = always_told OnRequestFree; entry = Request ∷ []; outcome = always []; call = free_call }
row (functions.Collective kind) name = record { callback = always_told OnCollective; entry = collective_parameters kind; outcome = always []; call = collective_call kind }
row (functions.Icollective kind) name = record { callback = always_told OnIcollective; entry = collective_parameters kind; outcome = always (started_request (is_started kind)); call = icollective_call kind }
row (functions.OnObject kind nonblocking) name = record { callback = object_told name; entry = []; outcome = always []; call = object_call kind nonblocking }
row (functions.SendInit mode) name = record { callback = always_told OnSendInit; entry = send_parameters; outcome = always (Request ∷ []); call = send_init_call mode }
row functions.RecvInit name = record { callback = always_told OnRecvInit; entry = receive_parameters; outcome = always (Request ∷ []); call = recv_init_call }
row functions.Start name = record { callback = always_told OnStart; entry = Request ∷ []; outcome = always []; call = start_call }
row functions.Startall name = record { callback = always_told OnStartall; entry = Requests ∷ []; outcome = always []; call = startall_call }
row functions.Mprobe name = record { callback = always_told OnMprobe; entry = probe_parameters; outcome = always []; call = mprobe_call }
row functions.Improbe name = record { callback = always_told OnImprobe; entry = probe_parameters; outcome = always (Flag ∷ []); call = improbe_call }
row functions.Imrecv name = record { callback = always_told OnImrecv; entry = []; outcome = always (Request ∷ []); call = λ raw. Ok calls.Imrecv }
row functions.Unread name = record { callback = always_told (OnUnread name); entry = []; outcome = always []; call = λ raw. Ok calls.Unread }
row functions.Finalize name = record { callback = always_told (OnOther name); entry = []; outcome = always []; call = λ raw. Ok calls.Finalize }
row functions.Other name = record { callback = always_told (OnOther name); entry = []; outcome = always []; call = λ raw. Ok calls.Local }

-- ---- calls

-- this parameter where it isn't there, or else one of the others
abbrev pub missing_first : Parameter → Option (List ℕ) → Option Parameter → Option Parameter
missing_first parameter None others = Some parameter
missing_first parameter (Some text) others = others

-- the first of the parameters that isn't there
abbrev pub first_missing : List Parameter → TextCall → Option Parameter
first_missing [] call = None
first_missing (parameter ∷ parameters) call = missing_first parameter (text_of parameter call) (first_missing parameters call)

-- an entry parameter that is missing, or else an outcome parameter of a call that returned
abbrev pub missing_by : Option Parameter → Option Times → Option Parameter → Option Parameter
missing_by (Some parameter) exit outcome = Some parameter
missing_by None None outcome = None
missing_by None (Some stamp) outcome = outcome

-- the first parameter of its row that a call lacks: those of the outcome are asked for where it returned
abbrev pub missing_in : Row → TextCall → Option Parameter
missing_in row raw = missing_by (first_missing row.entry raw) raw.exit (first_missing (row.outcome raw) raw)

-- how a call returned, at this time
unfoldable pub returned : Call → Times → TextCall → Result Exit CallFault
returned call stamp raw = do
  outs ← outcome_in call raw
  Ok (record { outs = outs; stamp = stamp })

-- how a call returned, if it did
abbrev pub exit_in : Call → Option Times → TextCall → Result (Option Exit) CallFault
exit_in call None raw = Ok None
exit_in call (Some stamp) raw = do
  exit ← returned call stamp raw
  Ok (Some exit)

-- a call whose parameters are all there
unfoldable pub read_by : Row → TextCall → Result TypedCall CallFault
read_by row raw = do
  call ← row.call raw
  exit ← exit_in call raw.exit raw
  Ok (record { call = call; enter = raw.enter; exit = exit })

-- what is read, unless a parameter is missing
abbrev pub unless_missing : Option Parameter → Result TypedCall CallFault → Result TypedCall CallFault
unless_missing (Some parameter) read = Err (Missing parameter)
unless_missing None read = read

-- a call by its row: the first parameter that is missing, then the first that is wrong
abbrev pub typed_by : Row → TextCall → Result TypedCall CallFault
typed_by row raw = unless_missing (missing_in row raw) (read_by row raw)

-- The function of a call: where another thread ended the reading, the call isn't read, whatever its name is.
abbrev pub function_in : TextCall → Function
function_in raw = if raw.threads then functions.Unread else function_named raw.name

-- the row of a call's function
abbrev pub row_of : TextCall → Row
row_of raw = row (function_in raw) raw.name

-- the call that a text tells, or why it is refused
abbrev pub typed : TextCall → Result TypedCall CallFault
typed raw = typed_by (row_of raw) raw
