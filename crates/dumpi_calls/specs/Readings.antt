-- What the parameters of a call say, one by one.
use Rattle.std.specs.Prelude.{◌≡◌, ◌≢◌, ◌==◌, ℕ, ℤ, pos, negsuc, List, [], ◌∷◌, Option, Some, None, Result, Ok, Err, codes, nat_lt, option_map, IfErr, IfOk, IsSome, if◌then◌else◌}
use Rattle.mpi_model.specs.Kinds.{has_root, row}
use Rattle.mpi_model.specs.declared.kind.ObjectParameter.{ObjectParameter}
use Rattle.mpi_model.specs.declared.kind.ObjectParameter.TheVariants as objects
use Rattle.mpi_model.specs.declared.object.Object.{Object}
use Rattle.mpi_model.specs.declared.object.Object.TheVariants as sorts
use Rattle.mpi_model.specs.Requests.{null_request}
use Rattle.mpi_model.specs.declared.envelope.CommRef.{CommRef}
use Rattle.mpi_model.specs.declared.envelope.CommRef.TheVariants.{World, Id}
use Rattle.mpi_model.specs.declared.envelope.Peer.{Peer}
use Rattle.mpi_model.specs.declared.envelope.Peer.TheVariants as peers
use Rattle.mpi_model.specs.declared.kind.Kind.{Kind}
use Rattle.dumpi_text.specs.Call.{TextCall, first_value}
use Rattle.dumpi_text.specs.Value.{value_of}
use Rattle.dumpi_text.specs.declared.number.Num.{Num}
use Rattle.dumpi_text.specs.declared.number.NumName.{NumName}
use Rattle.dumpi_text.specs.declared.number.NumName.TheVariants as names
use Rattle.dumpi_text.specs.declared.value.Value.{Value}
use Rattle.dumpi_text.specs.declared.value.Value.TheVariants as values
use Rattle.dumpi_calls.specs.declared.parameter.CallFault.{CallFault}
use Rattle.dumpi_calls.specs.declared.parameter.CallFault.TheVariants.{Memory, Missing, Wrong}
use Rattle.dumpi_calls.specs.declared.parameter.Parameter.{Parameter}
use Rattle.dumpi_calls.specs.declared.parameter.Parameter.TheVariants as parameters

-- The answer is what is meant, unless memory was refused.
abbrev pub Reads : {A : Type 0} → Result A CallFault → Result A CallFault → Type 0
Reads result meant = IfOk result (λ value. meant ≡ Ok value) × IfErr result (λ fault. fault ≢ Memory → meant ≡ Err fault)

infixl 10 ◌>>=◌
-- what is read first, and then the rest by its value; the first fault is the whole's
abbrev pub ◌>>=◌ : {A B : Type 0} → Result A CallFault → (A → Result B CallFault) → Result B CallFault
(Ok value) >>= f = f value
(Err fault) >>= f = Err fault

-- a parameter's name in a trace text
abbrev pub name_of : Parameter → List ℕ
name_of parameters.Count = codes "count"
name_of parameters.Datatype = codes "datatype"
name_of parameters.Dest = codes "dest"
name_of parameters.Source = codes "source"
name_of parameters.Tag = codes "tag"
name_of parameters.Comm = codes "comm"
name_of parameters.OldComm = codes "oldcomm"
name_of parameters.CommOld = codes "comm_old"
name_of parameters.LocalComm = codes "local_comm"
name_of parameters.Intercomm = codes "intercomm"
name_of parameters.Win = codes "win"
name_of parameters.Fh = codes "fh"
name_of parameters.File = codes "file"
name_of parameters.SendCount = codes "sendcount"
name_of parameters.SendType = codes "sendtype"
name_of parameters.SendTag = codes "sendtag"
name_of parameters.RecvCount = codes "recvcount"
name_of parameters.RecvType = codes "recvtype"
name_of parameters.RecvTag = codes "recvtag"
name_of parameters.Root = codes "root"
name_of parameters.Request = codes "request"
name_of parameters.Requests = codes "requests"
name_of parameters.Index = codes "index"
name_of parameters.Indices = codes "indices"
name_of parameters.Flag = codes "flag"
name_of parameters.Status = codes "status"
name_of parameters.Statuses = codes "statuses"

-- ---- values

-- the text of a parameter: the first of its name counts
unfoldable pub text_of : Parameter → TextCall → Option (List ℕ)
text_of parameter call = first_value (name_of parameter) call.params

-- The parameters are there.
abbrev pub AreThere : List Parameter → TextCall → Type 0
AreThere [] call = Unit {0}
AreThere (parameter ∷ parameters) call = IsSome (text_of parameter call) × AreThere parameters call

-- a value that can't be read makes its parameter wrong
abbrev pub or_wrong : {A : Type 0} → Parameter → Option A → Result A CallFault
or_wrong parameter None = Err (Wrong parameter)
or_wrong parameter (Some value) = Ok value

-- the value of a parameter, by its text
abbrev pub value_from : Parameter → Option (List ℕ) → Result Value CallFault
value_from parameter None = Err (Missing parameter)
value_from parameter (Some text) = or_wrong parameter (value_of text)

-- the value of a parameter
abbrev pub value_in : Parameter → TextCall → Result Value CallFault
value_in parameter call = value_from parameter (text_of parameter call)

-- one number: a number, or a list of exactly one
abbrev pub one_number : Value → Option Num
one_number (values.Number number) = Some number
one_number (values.Numbers []) = None
one_number (values.Numbers (number ∷ [])) = Some number
one_number (values.Numbers (number ∷ other ∷ numbers)) = None
one_number (values.Groups groups) = None

-- a list of numbers: a list, or a number as a list of one
abbrev pub all_numbers : Value → Option (List Num)
all_numbers (values.Number number) = Some (number ∷ [])
all_numbers (values.Numbers numbers) = Some numbers
all_numbers (values.Groups groups) = None

-- the number that a parameter is
unfoldable pub number_in : Parameter → TextCall → Result Num CallFault
number_in parameter call = do
  value ← value_in parameter call
  or_wrong parameter (one_number value)

-- the numbers that a parameter lists
unfoldable pub numbers_in : Parameter → TextCall → Result (List Num) CallFault
numbers_in parameter call = do
  value ← value_in parameter call
  or_wrong parameter (all_numbers value)

-- A C `int` is below this: 2^31.
abbrev pub int_bound : ℕ
int_bound = 2147483648

-- a number from 0 to 2^31 - 1, as a non-negative `int` is
abbrev pub non_negative : ℤ → Option ℕ
non_negative (pos n) = if nat_lt n int_bound then Some n else None
non_negative (negsuc n) = None

-- ---- what numbers tell: a name that is meant there wins over the number, and -1 and -2 stand for what has no rank

-- a destination without a name
abbrev pub dest_from : ℤ → Option Peer
dest_from (pos n) = option_map peers.Rank (non_negative (pos n))
dest_from (negsuc n) = if nat_lt n 2 then Some peers.Null else None

-- the destination of a send, by its name and its number
abbrev pub dest_by : NumName → ℤ → Option Peer
dest_by names.ProcNull value = Some peers.Null
dest_by _ value = dest_from value

-- a source without a name
abbrev pub source_from : ℤ → Option Peer
source_from (pos n) = option_map peers.Rank (non_negative (pos n))
source_from (negsuc n) = if n == 0 then Some peers.Any else (if n == 1 then Some peers.Null else None)

-- the source of a receive, by its name and its number
abbrev pub source_by : NumName → ℤ → Option Peer
source_by names.AnySource value = Some peers.Any
source_by names.ProcNull value = Some peers.Null
source_by _ value = source_from value

-- the tag of a receive without a name: `Some None` is any tag
abbrev pub asked_tag_from : ℤ → Option (Option ℕ)
asked_tag_from (pos n) = option_map Some (non_negative (pos n))
asked_tag_from (negsuc n) = if n == 0 then Some None else None

-- the tag of a receive, by its name and its number
abbrev pub asked_tag_by : NumName → ℤ → Option (Option ℕ)
asked_tag_by names.AnyTag value = Some None
asked_tag_by _ value = asked_tag_from value

-- a root without a name: `Some None` is none in the group
abbrev pub root_from : ℤ → Option (Option ℕ)
root_from (pos n) = option_map Some (non_negative (pos n))
root_from (negsuc n) = Some None

-- The root of a call by its name and its number: a rank of its group, or none where the call names `MPI_ROOT`,
-- `MPI_PROC_NULL` or a number below 0, as the calls of the group that has the root do on an intercommunicator (MPI 4.0,
-- 6.2.3).
abbrev pub root_by : NumName → ℤ → Option (Option ℕ)
root_by names.Root value = Some None
root_by names.ProcNull value = Some None
root_by _ value = root_from value

-- a communicator, by its name and its number
abbrev pub comm_by : NumName → ℤ → Option CommRef
comm_by names.CommWorld value = Some World
comm_by _ value = option_map Id (non_negative value)

-- ---- parameters, each by its value

-- a count or a tag of a send
unfoldable pub non_negative_in : Parameter → TextCall → Result ℕ CallFault
non_negative_in parameter call = do
  number ← number_in parameter call
  or_wrong parameter (non_negative number.value)

-- the destination that a send names
unfoldable pub dest_in : TextCall → Result Peer CallFault
dest_in call = do
  number ← number_in parameters.Dest call
  or_wrong parameters.Dest (dest_by number.name number.value)

-- the source that a receive or a probe names
unfoldable pub source_in : TextCall → Result Peer CallFault
source_in call = do
  number ← number_in parameters.Source call
  or_wrong parameters.Source (source_by number.name number.value)

-- the tag that a receive or a probe names
unfoldable pub asked_tag_in : Parameter → TextCall → Result (Option ℕ) CallFault
asked_tag_in parameter call = do
  number ← number_in parameter call
  or_wrong parameter (asked_tag_by number.name number.value)

-- the root that a call names
unfoldable pub root_named : TextCall → Result (Option ℕ) CallFault
root_named call = do
  number ← number_in parameters.Root call
  or_wrong parameters.Root (root_by number.name number.value)

-- the root of a call of a kind, which names one where its kind has one
abbrev pub root_in : Kind → TextCall → Result (Option ℕ) CallFault
root_in kind call = if has_root kind then root_named call else Ok None

-- the communicator that a call names
unfoldable pub comm_in : TextCall → Result CommRef CallFault
comm_in call = do
  number ← number_in parameters.Comm call
  or_wrong parameters.Comm (comm_by number.name number.value)

-- ---- objects of collective calls that are no communications

-- the parameters that may name an object
abbrev pub object_parameters : ObjectParameter → List Parameter
object_parameters objects.Comm = parameters.Comm ∷ []
object_parameters objects.OldComm = parameters.OldComm ∷ parameters.Comm ∷ []
object_parameters objects.CommOld = parameters.OldComm ∷ parameters.CommOld ∷ parameters.Comm ∷ []
object_parameters objects.LocalComm = parameters.LocalComm ∷ []
object_parameters objects.Intercomm = parameters.Intercomm ∷ []
object_parameters objects.Win = parameters.Win ∷ []
object_parameters objects.File = parameters.Fh ∷ parameters.File ∷ []

-- an object of a sort, by a name and a number: a window and a file have a number alone
abbrev pub object_by : Object → NumName → ℤ → Option CommRef
object_by sorts.Communicator name value = comm_by name value
object_by sorts.Window name value = option_map Id (non_negative value)
object_by sorts.File name value = option_map Id (non_negative value)

-- the object of a sort that `comm` names
unfoldable pub named_in : Object → TextCall → Result CommRef CallFault
named_in object call = do
  number ← number_in parameters.Comm call
  or_wrong parameters.Comm (object_by object number.name number.value)

-- an object of a sort by a number that was read, where it could be
abbrev pub object_from : Object → Result Num CallFault → Option CommRef
object_from object (Err fault) = None
object_from object (Ok number) = object_by object number.name number.value

-- this parameter where it is there, or else what others say
abbrev pub or_the_next : Object → Parameter → Option (List ℕ) → TextCall → Option CommRef → Option CommRef
or_the_next object parameter None call others = others
or_the_next object parameter (Some text) call others = object_from object (number_in parameter call)

-- an object of a sort, by the first of these parameters that the call has: it decides also where it can't be read
abbrev pub first_object : Object → List Parameter → TextCall → Option CommRef
first_object object [] call = None
first_object object (parameter ∷ parameters) call = or_the_next object parameter (text_of parameter call) call (first_object object parameters call)

-- the object that a call of a kind names
unfoldable pub object_in : Kind → TextCall → Option CommRef
object_in kind call = first_object (row kind).object (object_parameters (row kind).parameter) call

-- a request, by its name and its number: the null one by its name (MPI 4.0, 3.7.3)
abbrev pub request_by : NumName → ℤ → ℤ
request_by names.RequestNull value = null_request
request_by _ value = value

-- the request that a parameter names
unfoldable pub request_in : TextCall → Result ℤ CallFault
request_in call = do
  number ← number_in parameters.Request call
  Ok (request_by number.name number.value)

-- the requests that numbers name
abbrev pub requests_of : List Num → List ℤ
requests_of [] = []
requests_of (number ∷ numbers) = request_by number.name number.value ∷ requests_of numbers

-- the requests that a parameter lists
unfoldable pub requests_in : TextCall → Result (List ℤ) CallFault
requests_in call = do
  numbers ← numbers_in parameters.Requests call
  Ok (requests_of numbers)
