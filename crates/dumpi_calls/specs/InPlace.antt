-- Calls that stand whole in front of a text, read where they stand.
use Rattle.std.specs.Prelude.{◌≡◌, ◌≤◌, ℕ, ◌+◌, ℤ, Bool, true, ◌&&◌, not, List, [], ◌∷◌, ◌++◌, length, Some, None, Ok, codes, drop}
use Rattle.std.specs.List.{list_all}
use Rattle.mpi_model.specs.Times.{Times}
use Rattle.mpi_model.specs.declared.call.Call.{Call}
use Rattle.mpi_model.specs.declared.kind.Kind.TheVariants.{Barrier, Bcast, Scatter, Gather, Reduce, Allreduce, Allgather, Alltoall}
use Rattle.mpi_model.specs.declared.envelope.Envelope.{Envelope}
use Rattle.mpi_model.specs.declared.envelope.Mode.TheVariants.{Standard, Synchronous}
use Rattle.mpi_model.specs.declared.outcome.Outs.{Outs}
use Rattle.mpi_model.specs.declared.told.Told.{Told}
use Rattle.dumpi_text.specs.Call.{Param, TextCall, first_value, same_bytes}
use Rattle.dumpi_text.specs.Bytes.{line_feed}
use Rattle.dumpi_text.specs.Number.{note_front}
use Rattle.dumpi_text.specs.Tokens.{after_spaces, digit_parts}
use Rattle.dumpi_text.specs.Usual.{EndsLine, HasCall, Tells, TellsAll, call_after, ends_bare, is_inside}
use Rattle.dumpi_text.specs.Value.{value_of}
use Rattle.dumpi_text.specs.declared.number.Num.{Num}
use Rattle.dumpi_text.specs.declared.number.NumName.{NumName}
use Rattle.dumpi_text.specs.declared.step.Position.{Position}
use Rattle.dumpi_text.specs.declared.value.Value.TheVariants.{Number}
use Rattle.dumpi_calls.specs.Outcomes.{groups_by, told_at, tolds_from}
use Rattle.dumpi_calls.specs.Readings.{name_of}
use Rattle.dumpi_calls.specs.Rows.{envelope_of_receive, envelope_of_send, function_named, row, typed, typed_by}
use Rattle.dumpi_calls.specs.Skims.{requests_from}
use Rattle.dumpi_calls.specs.declared.function.Function.{Function}
use Rattle.dumpi_calls.specs.declared.function.Function.TheVariants as functions
use Rattle.dumpi_calls.specs.declared.parameter.Parameter.{Parameter}
use Rattle.dumpi_calls.specs.declared.parameter.Parameter.TheVariants.{Comm, Count, Datatype, Dest, Requests, Root, Source, Status, Statuses, Tag}
use Rattle.dumpi_calls.specs.declared.typing.TypedCall.{TypedCall}

-- the line of a parameter
abbrev pub param_of : Parameter → List ℕ → Param
param_of parameter value = record { name = name_of parameter; value = value }

-- A text begins with a line that tells a number as this parameter.
pub record TellsNumber (parameter : Parameter) (number : Num) (text rest : List ℕ) : Type 0 where
  pub value : List ℕ
  pub tells : Tells (param_of parameter value) text rest
  pub means : value_of value ≡ Some (Number number)

-- A text begins with a value that says this number and with its line feed, and then comes the rest.
pub record EndsNumber (number : Num) (text rest : List ℕ) : Type 0 where
  pub value : List ℕ
  pub line : EndsLine value text rest
  pub means : value_of value ≡ Some (Number number)

-- nothing, or what ends with a byte that is not cut off
abbrev pub ends_note : List ℕ → Bool
ends_note [] = true
ends_note (byte ∷ bytes) = ends_bare (byte ∷ bytes)

-- A text begins with a note that gives a number this name, or with nothing, and with a line feed, and then comes the
-- rest.
pub record EndsNote (name : NumName) (text rest : List ℕ) : Type 0 where
  pub note : List ℕ
  pub whole : text ≡ note ++ line_feed ∷ rest
  pub short : length note ≤ 50
  pub inside : list_all is_inside note ≡ true
  pub ends : ends_note note ≡ true
  pub digits : digit_parts note ≡ ([], note)
  pub means : note_front (after_spaces note) ≡ Some (name, [])

-- the parameters of a send and of a receive in the order in which dumpi2ascii writes them
abbrev pub send_lines : List ℕ → List ℕ → List ℕ → List ℕ → List ℕ → List Param
send_lines count datatype dest tag comm = param_of Count count ∷ param_of Datatype datatype ∷ param_of Dest dest ∷ param_of Tag tag ∷ param_of Comm comm ∷ []

-- the parameters of a receive, in the order of dumpi2ascii
abbrev pub receive_lines : List ℕ → List ℕ → List ℕ → List ℕ → List ℕ → List Param
receive_lines count datatype source tag comm = param_of Count count ∷ param_of Datatype datatype ∷ param_of Source source ∷ param_of Tag tag ∷ param_of Comm comm ∷ []

-- A text begins with the lines of a send, which say this envelope, whatever lines follow.
pub record TellsSend (envelope : Envelope) (text rest : List ℕ) : Type 0 where
  pub count : List ℕ
  pub datatype : List ℕ
  pub dest : List ℕ
  pub tag : List ℕ
  pub comm : List ℕ
  pub tells : TellsAll (send_lines count datatype dest tag comm) text rest
  pub says : (raw : TextCall) (more : List Param) → raw.params ≡ send_lines count datatype dest tag comm ++ more → envelope_of_send raw ≡ Ok envelope

-- A text begins with the lines of a receive, which say this envelope, whatever lines follow.
pub record TellsReceive (envelope : Envelope) (text rest : List ℕ) : Type 0 where
  pub count : List ℕ
  pub datatype : List ℕ
  pub source : List ℕ
  pub tag : List ℕ
  pub comm : List ℕ
  pub tells : TellsAll (receive_lines count datatype source tag comm) text rest
  pub says : (raw : TextCall) (more : List Param) → raw.params ≡ receive_lines count datatype source tag comm ++ more → envelope_of_receive raw ≡ Ok envelope

-- A text begins with so many parameter lines, which say a call of a function and what it brings back, whatever its
-- times.
pub record TellsCall (function : Function) (call : Call) (outs : Outs) (lines : ℕ) (text rest : List ℕ) : Type 0 where
  pub params : List Param
  pub tells : TellsAll params text rest
  pub counted : lines ≡ length params
  pub says : (raw : TextCall) (exit : Times) → raw.params ≡ params → raw.exit ≡ Some exit → typed_by (row function raw.name) raw ≡ Ok (record { call = call; enter = raw.enter; exit = Some (record { outs = outs; stamp = exit }) })

-- A text begins with so many lines that tell a status, one or none, which tells this source.
pub record TellsStatus (told : Told) (lines : ℕ) (text rest : List ℕ) : Type 0 where
  pub params : List Param
  pub tells : TellsAll params text rest
  pub counted : lines ≡ length params
  pub says : told_at (groups_by (first_value (name_of Status) params)) 0 ≡ told

-- A text begins with a line that lists these requests.
pub record TellsRequests (requests : List ℤ) (text rest : List ℕ) : Type 0 where
  pub value : List ℕ
  pub tells : Tells (param_of Requests value) text rest
  pub means : requests_from (value_of value) ≡ Some requests

-- A text begins with so many lines that tell statuses, one or none, which tell these sources of requests.
pub record TellsStatuses (requests : List ℤ) (tolds : List Told) (lines : ℕ) (text rest : List ℕ) : Type 0 where
  pub params : List Param
  pub tells : TellsAll params text rest
  pub counted : lines ≡ length params
  pub says : tolds_from (groups_by (first_value (name_of Statuses) params)) 0 requests ≡ tolds

-- whether a parameter of this name says nothing of a collective call and of a Waitall
abbrev pub is_unread : List ℕ → Bool
is_unread name = not (same_bytes name (codes "root")) && (not (same_bytes name (codes "comm")) && (not (same_bytes name (codes "requests")) && not (same_bytes name (codes "statuses"))))

-- A text begins with so many lines of parameters that say nothing of such a call.
pub record PassesLines (lines : ℕ) (text rest : List ℕ) : Type 0 where
  pub params : List Param
  pub tells : TellsAll params text rest
  pub counted : lines ≡ length params
  pub root : first_value (name_of Root) params ≡ None
  pub comm : first_value (name_of Comm) params ≡ None
  pub requests : first_value (name_of Requests) params ≡ None
  pub statuses : first_value (name_of Statuses) params ≡ None

-- the name of a function whose calls are read in place
abbrev pub usual_name : Function → List ℕ
usual_name (functions.Send Standard) = codes "MPI_Send"
usual_name (functions.Send Synchronous) = codes "MPI_Ssend"
usual_name (functions.Isend Standard) = codes "MPI_Isend"
usual_name (functions.Isend Synchronous) = codes "MPI_Issend"
usual_name functions.Recv = codes "MPI_Recv"
usual_name functions.Irecv = codes "MPI_Irecv"
usual_name functions.Wait = codes "MPI_Wait"
usual_name functions.Waitall = codes "MPI_Waitall"
usual_name (functions.Collective Barrier) = codes "MPI_Barrier"
usual_name (functions.Collective Allreduce) = codes "MPI_Allreduce"
usual_name (functions.Collective Allgather) = codes "MPI_Allgather"
usual_name (functions.Collective Alltoall) = codes "MPI_Alltoall"
usual_name (functions.Collective Bcast) = codes "MPI_Bcast"
usual_name (functions.Collective Scatter) = codes "MPI_Scatter"
usual_name (functions.Collective Gather) = codes "MPI_Gather"
usual_name (functions.Collective Reduce) = codes "MPI_Reduce"
usual_name _ = []

-- So many bytes in front of a text are a whole call of a function, of so many lines, and it is typed so, wherever it
-- stands.
pub record IsWhole (function : Function) (call : TypedCall) (bytes lines : ℕ) (text : List ℕ) : Type 0 where
  pub params : List Param
  pub exit : Times
  pub stands : HasCall (record { name = usual_name function; params = params }) call.enter exit text (drop bytes text)
  pub within : bytes ≤ length text
  pub counted : lines ≡ length params + 2
  pub function_is : function_named (usual_name function) ≡ function
  pub typed_as : (at : Position) → typed (call_after at (record { name = usual_name function; params = params }) call.enter exit) ≡ Ok call
