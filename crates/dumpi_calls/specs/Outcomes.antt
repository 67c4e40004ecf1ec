-- What a returned call brings back, by its outcome parameters (MPI 4.0, 3.2.5 and 3.7).
use Rattle.std.specs.Prelude.{ℕ, ◌+◌, ℤ, pos, negsuc, List, [], ◌∷◌, Option, Some, None, Result, Ok, Err, Bool, true, false, ◌==◌, ◌&&◌, not, codes, nat_lt, length, slice_get, if◌then◌else◌}
use Rattle.std.specs.Str.{bytes_eq}
use Rattle.mpi_model.specs.Kinds.{row}
use Rattle.mpi_model.specs.declared.call.Call.{Call}
use Rattle.mpi_model.specs.declared.call.Call.TheVariants as calls
use Rattle.mpi_model.specs.declared.outcome.Outs.{Outs}
use Rattle.mpi_model.specs.declared.outcome.Outs.TheVariants as outcomes
use Rattle.mpi_model.specs.declared.list.elements.Element.{Element}
use Rattle.mpi_model.specs.declared.told.Told.{Told}
use Rattle.mpi_model.specs.declared.told.Told.TheVariants.{Nothing, Source, Cancelled}
use Rattle.dumpi_text.specs.Call.{TextCall}
use Rattle.dumpi_text.specs.Value.{value_of}
use Rattle.dumpi_text.specs.declared.group.Field.{Field}
use Rattle.dumpi_text.specs.declared.number.Num.{Num}
use Rattle.dumpi_text.specs.declared.number.NumName.{NumName}
use Rattle.dumpi_text.specs.declared.number.NumName.TheVariants as names
use Rattle.dumpi_text.specs.declared.value.Value.{Value}
use Rattle.dumpi_text.specs.declared.value.Value.TheVariants as values
use Rattle.dumpi_calls.specs.Readings.{◌>>=◌, all_numbers, number_in, non_negative, request_in, text_of}
use Rattle.dumpi_calls.specs.declared.parameter.CallFault.{CallFault}
use Rattle.dumpi_calls.specs.declared.parameter.Parameter.{Parameter}
use Rattle.dumpi_calls.specs.declared.parameter.Parameter.TheVariants.{Request, Index, Indices, Flag, Status, Statuses}

-- ---- statuses

-- the source that a number tells, unless it is named as none
abbrev pub told_by : NumName → ℤ → Option ℕ
told_by names.AnySource value = None
told_by names.ProcNull value = None
told_by _ value = non_negative value

-- a source that is told, or nothing
abbrev pub told_source : Option ℕ → Told
told_source None = Nothing
told_source (Some rank) = Source rank

-- an `int` of C: 0 is false, any other number is true
abbrev pub is_set : ℤ → Bool
is_set (pos n) = not (n == 0)
is_set (negsuc n) = true

-- what the field `source` of a group tells, where it has one
abbrev pub source_told : Option Num → Told
source_told None = Nothing
source_told (Some number) = told_source (told_by number.name number.value)

-- What the fields `cancelled` and `source` of a group tell: where the operation was cancelled, its source says nothing
-- (MPI 4.0, 3.8.4).
abbrev pub told_from : Option Num → Option Num → Told
told_from None source = source_told source
told_from (Some cancelled) source = if is_set cancelled.value then Cancelled else source_told source

-- the number of the first field of a name
abbrev pub first_number : List ℕ → List Field → Option Num
first_number word [] = None
first_number word (field ∷ fields) = if bytes_eq field.word word then Some field.number else first_number word fields

-- what a group tells: the first of its fields of a name counts
abbrev pub told_of : List Field → Told
told_of fields = told_from (first_number (codes "cancelled") fields) (first_number (codes "source") fields)

-- what a group tells, where there is one
abbrev pub told_in : Option (List Field) → Told
told_in None = Nothing
told_in (Some group) = told_of group

-- what the group at a place tells
abbrev pub told_at : List (List Field) → ℕ → Told
told_at groups place = told_in (slice_get groups place)

-- the groups of a value that is a list of groups
abbrev pub groups_from : Option Value → List (List Field)
groups_from None = []
groups_from (Some (values.Number number)) = []
groups_from (Some (values.Numbers numbers)) = []
groups_from (Some (values.Groups groups)) = groups

-- the groups that a parameter's text says
abbrev pub groups_by : Option (List ℕ) → List (List Field)
groups_by None = []
groups_by (Some text) = groups_from (value_of text)

-- the groups of a parameter: none where it is absent or can't be read
unfoldable pub groups_in : Parameter → TextCall → List (List Field)
groups_in parameter call = groups_by (text_of parameter call)

-- what the groups from a place on tell of each request
abbrev pub tolds_from : List (List Field) → ℕ → List ℤ → List Told
tolds_from groups place [] = []
tolds_from groups place (request ∷ requests) = told_at groups place ∷ tolds_from groups (place + 1) requests

-- ---- positions

-- a position in a list of this length. It is kept in 32 bits, which no list of a line passes.
abbrev pub position_of : ℕ → ℤ → Option ℕ
position_of count (pos n) = if nat_lt n count && nat_lt n 4294967296 then Some n else None
position_of count (negsuc n) = None

-- the numbers, or no number
abbrev pub numbers_or_none : Option (List Num) → List Num
numbers_or_none None = []
numbers_or_none (Some numbers) = numbers

-- the numbers of a value, none where it can't be read
abbrev pub indices_from : Option Value → List Num
indices_from None = []
indices_from (Some value) = numbers_or_none (all_numbers value)

-- the numbers that a parameter's text says
abbrev pub indices_by : Option (List ℕ) → List Num
indices_by None = []
indices_by (Some text) = indices_from (value_of text)

-- the numbers of `indices`: none where it is absent or can't be read
unfoldable pub indices_in : TextCall → List Num
indices_in call = indices_by (text_of Indices call)

-- one element before others, where it has a position
abbrev pub with_element : Option ℕ → Told → List Element → List Element
with_element None told elements = elements
with_element (Some position) told elements = record { position = position; told = told } ∷ elements

-- the indices from a place on that are positions in the list, each with what the group at its own place tells
abbrev pub elements_from : List (List Field) → ℕ → ℕ → List Num → List Element
elements_from groups count place [] = []
elements_from groups count place (index ∷ indices) = with_element (position_of count index.value) (told_at groups place) (elements_from groups count (place + 1) indices)

-- ---- outcomes

-- the request that a call started
unfoldable pub posted : TextCall → Result Outs CallFault
posted raw = do
  request ← request_in raw
  Ok (outcomes.Posted request)

-- what the first group of `status` tells
abbrev pub status : TextCall → Outs
status raw = outcomes.Status (told_at (groups_in Status raw) 0)

-- what `statuses` tells of each request, in the call's order
abbrev pub statuses : List ℤ → TextCall → Outs
statuses requests raw = outcomes.Statuses (tolds_from (groups_in Statuses raw) 0 requests)

-- the request that completed, by its position in the call's list, and what `status` tells
unfoldable pub index : List ℤ → TextCall → Result Outs CallFault
index requests raw = do
  index ← number_in Index raw
  Ok (outcomes.Index (position_of (length requests) index.value) (told_at (groups_in Status raw) 0))

-- the requests that completed, by their positions in the call's list, each with what its status tells
abbrev pub several : List ℤ → TextCall → Outs
several requests raw = outcomes.Several (elements_from (groups_in Statuses raw) (length requests) 0 (indices_in raw))

-- whether the request is done or a message was taken, and what `status` tells
unfoldable pub flag : TextCall → Result Outs CallFault
flag raw = do
  flag ← number_in Flag raw
  Ok (outcomes.Flag (is_set flag.value) (told_at (groups_in Status raw) 0))

-- What `statuses` tells where all requests are done, and nothing where they are not: then none of them was completed
-- (MPI 4.0, 3.7.5).
unfoldable pub all_done : List ℤ → TextCall → Result Outs CallFault
all_done requests raw = do
  flag ← number_in Flag raw
  Ok (if is_set flag.value then statuses requests raw else outcomes.Flag false Nothing)

-- the request that completed, where one did
unfoldable pub any_done : List ℤ → TextCall → Result Outs CallFault
any_done requests raw = do
  flag ← number_in Flag raw
  if is_set flag.value then index requests raw else Ok (outcomes.Index None Nothing)

-- whether a flag that was read is set
abbrev pub is_flagged : Result Num CallFault → Bool
is_flagged (Ok flag) = is_set flag.value
is_flagged (Err fault) = false

-- `index` has to be there where `flag` is set.
abbrev pub index_where_set : TextCall → List Parameter
index_where_set raw = if is_flagged (number_in Flag raw) then Index ∷ [] else []

-- a request that a call on an object started, or nothing where it can't be read
abbrev pub posted_or_nothing : Result Outs CallFault → Outs
posted_or_nothing (Ok outs) = outs
posted_or_nothing (Err fault) = outcomes.Nothing

-- what a nonblocking collective call brings back: that of an object may lack its request
abbrev pub started : Bool → TextCall → Result Outs CallFault
started is_communication raw = if is_communication then posted raw else Ok (posted_or_nothing (posted raw))

-- what an Iprobe brings back, or nothing where its flag can't be read
abbrev pub flag_or_nothing : TextCall → Result Outs CallFault
flag_or_nothing raw = Ok (posted_or_nothing (flag raw))

-- the parameters that have to be there once a call has returned
abbrev pub brought_by : Call → TextCall → List Parameter
brought_by (calls.Isend mode envelope) raw = Request ∷ []
brought_by (calls.Irecv envelope) raw = Request ∷ []
brought_by (calls.Icollective collective) raw = if (row collective.kind).is_communication then Request ∷ [] else []
brought_by (calls.Waitany requests) raw = Index ∷ []
brought_by (calls.Test request) raw = Flag ∷ []
brought_by (calls.Testall requests) raw = Flag ∷ []
brought_by (calls.Testany requests) raw = Flag ∷ index_where_set raw
brought_by (calls.SendInit mode envelope) raw = Request ∷ []
brought_by (calls.RecvInit envelope) raw = Request ∷ []
brought_by (calls.Improbe envelope) raw = Flag ∷ []
brought_by calls.Imrecv raw = Request ∷ []
brought_by _ raw = []

-- what a call brings back, of the kind that belongs to it
abbrev pub outcome_in : Call → TextCall → Result Outs CallFault
outcome_in calls.Local raw = Ok outcomes.Nothing
outcome_in calls.Finalize raw = Ok outcomes.Nothing
outcome_in (calls.Send mode envelope) raw = Ok outcomes.Nothing
outcome_in (calls.Isend mode envelope) raw = posted raw
outcome_in (calls.Recv envelope) raw = Ok (status raw)
outcome_in (calls.Irecv envelope) raw = posted raw
outcome_in (calls.Sendrecv exchange) raw = Ok (status raw)
outcome_in (calls.Wait request) raw = Ok (status raw)
outcome_in (calls.Waitall requests) raw = Ok (statuses requests raw)
outcome_in (calls.Waitany requests) raw = index requests raw
outcome_in (calls.Waitsome requests) raw = Ok (several requests raw)
outcome_in (calls.Test request) raw = flag raw
outcome_in (calls.Testall requests) raw = all_done requests raw
outcome_in (calls.Testany requests) raw = any_done requests raw
outcome_in (calls.Testsome requests) raw = Ok (several requests raw)
outcome_in (calls.Cancel request) raw = Ok outcomes.Nothing
outcome_in (calls.Free request) raw = Ok outcomes.Nothing
outcome_in (calls.Collective collective) raw = Ok outcomes.Nothing
outcome_in (calls.Icollective collective) raw = started (row collective.kind).is_communication raw
outcome_in (calls.Probe envelope) raw = Ok (status raw)
outcome_in (calls.SendInit mode envelope) raw = posted raw
outcome_in (calls.RecvInit envelope) raw = posted raw
outcome_in (calls.Start request) raw = Ok outcomes.Nothing
outcome_in (calls.Startall requests) raw = Ok outcomes.Nothing
outcome_in (calls.Mprobe envelope) raw = Ok (status raw)
outcome_in (calls.Improbe envelope) raw = flag raw
outcome_in (calls.Iprobe envelope) raw = flag_or_nothing raw
outcome_in calls.Imrecv raw = posted raw
outcome_in calls.Unread raw = Ok outcomes.Nothing
