-- Which calls of the profile name which communicators, windows and files by their numbers. A number comes back once
-- what it names is freed or closed (MPI 4.0, 7.4.3, 12.2.5 and 14.2.2), so calls that name one number are told apart
-- where a call between them gives or ends it.
use Rattle.std.specs.Prelude.{◌≡◌, ◌≢◌, ◌<◌, ◌≤◌, ℕ, ◌+◌, ◌-◌, ◌^◌, ◌==◌, List, [], ◌∷◌, ◌++◌, Option, Some, None, Result, Ok, Err, codes, cond, count_by, is_some, length, min, nat_eq, slice_get, slice_set, if◌then◌else◌, Bool, false}
use Rattle.std.specs.List.{range_with_len}
use Rattle.std.specs.Option.{option_and_then}
use Rattle.indexmap.specs.IndexMap.{get}
use Rattle.mpi_model.specs.Calls.{comm_of, object_of}
use Rattle.mpi_model.specs.Kinds.{object_number}
use Rattle.mpi_model.specs.declared.call.Call.{Call}
use Rattle.mpi_model.specs.declared.envelope.CommRef.{CommRef}
use Rattle.mpi_model.specs.declared.object.Object.{Object}
use Rattle.mpi_model.specs.declared.object.Object.TheVariants as objects
use Rattle.mpi_model.specs.declared.envelope.CommRef.TheVariants as comms
use Rattle.dumpi_text.specs.Call.{TextCall}
use Rattle.dumpi_calls.specs.Rows.{typed}
use Rattle.dumpi_calls.specs.declared.parameter.CallFault.{CallFault}
use Rattle.dumpi_calls.specs.declared.typing.TypedCall.{TypedCall}
use Rattle.comm_makings.specs.Names.{number_given}
use Rattle.comm_makings.specs.Objects.{object_made}
use Rattle.comm_makings.specs.declared.calls.Action.{Action}
use Rattle.comm_makings.specs.declared.calls.Action.TheVariants as actions
use Rattle.comm_makings.specs.declared.calls.CommCall.{CommCall}
use Rattle.comm_makings.specs.declared.calls.Uses.{Uses}
use Rattle.comm_calls.specs.Actions.{made_of, merged_of, object_in, object_text, other_of}
use Rattle.comm_calls.specs.Functions.{function_of}
use Rattle.comm_calls.specs.Numbers.{comm_in, given_in, natural_in}
use Rattle.comm_calls.specs.Parameters.{text_of}
use Rattle.comm_calls.specs.declared.function.Function.{Function}
use Rattle.comm_calls.specs.declared.function.Function.TheVariants as functions
use Rattle.comm_calls.specs.declared.uses.NumberUses.{NumberUses}

-- ---- what one call says

-- its number; MPI_COMM_WORLD is named by no number
abbrev pub number_of : CommRef → Option ℕ
number_of comms.World = None
number_of (comms.Id number) = Some number

-- the number by which a call of the profile names its communicator, window or file
abbrev pub named_number : Call → Option ℕ
named_number call = option_and_then number_of (comm_of call)

-- A number of an object of one sort, where that is the sort that is asked for: each sort has numbers of its own.
abbrev pub of_sort : Object → Object → Option ℕ → Option ℕ
of_sort object sort number = cond (object_number sort == object_number object) number None

-- the number by which a call of the profile names an object of this sort
abbrev pub named_of : Object → Call → Option ℕ
named_of object call = of_sort object (object_of call) (named_number call)

-- the same, where the call is none that makes, names or ends them itself
abbrev pub named_but : Object → Option Function → Call → Option ℕ
named_but object function call = if is_some function then None else named_of object call

-- the number that a call names
abbrev pub named_by : Object → TextCall → Call → Option ℕ
named_by object raw call = named_but object (function_of raw) call

-- that number, where the call can be read
abbrev pub named_as : Object → TextCall → Result TypedCall CallFault → Option ℕ
named_as object raw (Ok call) = named_by object raw call.call
named_as object raw (Err fault) = None

-- the same of a call by its text alone
abbrev pub named_in : Object → TextCall → Option ℕ
named_in object raw = named_as object raw (typed raw)

-- a number that is given, once its call has returned
abbrev pub number_returned : Bool → Option ℕ → Option ℕ
number_returned returned given = if returned then given else None

-- the sort of what an action gives or ends by a number, and the number, once its call has returned
abbrev pub changed_of_action : Bool → Action → Object × Option ℕ
changed_of_action returned (actions.Make parent making given) = (objects.Communicator, number_given returned given)
changed_of_action returned (actions.CommRank comm rank) = (objects.Communicator, None)
changed_of_action returned (actions.Free comm) = (objects.Communicator, comm)
changed_of_action returned (actions.Group group given) = (objects.Communicator, None)
changed_of_action returned (actions.Join local leaders given) = (objects.Communicator, number_given returned given)
changed_of_action returned (actions.Merge comm high given) = (objects.Communicator, number_given returned given)
changed_of_action returned (actions.GivesComm maker comm given) = (objects.Communicator, number_given returned given)
changed_of_action returned (actions.MakeObject maker parent given) = (object_made maker, number_returned returned given)
changed_of_action returned (actions.EndObject object number) = (object, number)

-- the same of a call
abbrev pub changed_of_call : CommCall → Object × Option ℕ
changed_of_call call = changed_of_action call.returned call.action

-- what a call of such a function gives or ends: behind it the number means something else, or nothing
abbrev pub changed_in : Function → TextCall → Object × Option ℕ
changed_in (functions.Make maker) raw = (objects.Communicator, number_given (is_some raw.exit) (given_in (made_of maker raw)))
changed_in functions.Rank raw = (objects.Communicator, None)
changed_in functions.Free raw = (objects.Communicator, comm_in (text_of (codes "comm") raw))
changed_in (functions.Group grouper) raw = (objects.Communicator, None)
changed_in functions.Join raw = (objects.Communicator, number_given (is_some raw.exit) (given_in (text_of (codes "newintercomm") raw)))
changed_in functions.Merge raw = (objects.Communicator, number_given (is_some raw.exit) (given_in (merged_of raw)))
changed_in (functions.Give maker) raw = (objects.Communicator, number_given (is_some raw.exit) (given_in (other_of maker raw)))
changed_in (functions.MakeObject maker) raw = (object_made maker, number_returned (is_some raw.exit) (object_in (object_made maker) raw))
changed_in (functions.EndObject object) raw = (object, natural_in (object_text object raw))

-- what a call of the text gives or ends
abbrev pub changed_of : TextCall → Option Function → Object × Option ℕ
changed_of raw None = (objects.Communicator, None)
changed_of raw (Some function) = changed_in function raw

-- a number that is given or ended, where it is of this sort
abbrev pub of_changed : Object → Object × Option ℕ → Option ℕ
of_changed object changed = of_sort object changed.0 changed.1

-- the number of this sort that a call gives or ends
abbrev pub changed_by : Object → TextCall → Option ℕ
changed_by object raw = of_changed object (changed_of raw (function_of raw))

-- ---- what all calls say

-- the number of this sort that the call at a place names
abbrev pub named_at : Object → List TextCall → ℕ → Option ℕ
named_at object raws place = option_and_then (named_in object) (slice_get raws place)

-- the number of this sort that the call at a place gives or ends
abbrev pub changed_at : Object → List TextCall → ℕ → Option ℕ
changed_at object raws place = option_and_then (changed_by object) (slice_get raws place)

-- a call names just this number
abbrev pub is_number : ℕ → Option ℕ → Bool
is_number number None = false
is_number number (Some named) = named == number

-- how many of the calls from a place on, so many in all, name a number
abbrev pub count_named : (ℕ → Option ℕ) → ℕ → ℕ → ℕ → ℕ
count_named named number first many = count_by (λ place. is_number number (named place)) (range_with_len first many)

-- Calls from the first to the last that name one number, and between which none gives or frees it; all that name it
-- there are counted.
pub record IsGroup (named changed : ℕ → Option ℕ) (group : Uses) : Type 0 where
  pub first : named group.first ≡ Some group.number
  pub last : named group.last ≡ Some group.number
  pub order : group.first ≤ group.last
  pub together : (place : ℕ) → group.first ≤ place → place ≤ group.last → changed place ≢ Some group.number
  pub count : group.count ≡ count_named named group.number group.first (group.last + 1 - group.first)

-- Between two groups of one number a call gives or frees it.
pub record IsBetween (changed : ℕ → Option ℕ) (before after : Uses) : Type 0 where
  pub place : ℕ
  pub above : before.last < place
  pub below : place < after.first
  pub changes : changed place ≡ Some before.number

-- The call at this place, which names this number, is one of a group's.
pub record IsOneOf (groups : List Uses) (place number : ℕ) : Type 0 where
  pub at : ℕ
  pub group : Uses
  pub is : slice_get groups at ≡ Some group
  pub same : group.number ≡ number
  pub from : group.first ≤ place
  pub to : place ≤ group.last

-- The groups of all calls that name numbers, in the order of their first calls.
pub record AreUses (named changed : ℕ → Option ℕ) (groups : List Uses) : Type 0 where
  pub each : (i : ℕ) (group : Uses) → slice_get groups i ≡ Some group → IsGroup named changed group
  pub whole : (place number : ℕ) → named place ≡ Some number → IsOneOf groups place number
  pub rising : (i j : ℕ) (before after : Uses) → i < j → slice_get groups i ≡ Some before → slice_get groups j ≡ Some after → before.first < after.first
  pub apart : (i j : ℕ) (before after : Uses) → i < j → slice_get groups i ≡ Some before → slice_get groups j ≡ Some after → before.number ≡ after.number → IsBetween changed before after

-- ---- call by call

-- Behind the group's last call one gives or frees its number.
pub record IsEnded (changed : ℕ → Option ℕ) (group : Uses) : Type 0 where
  pub place : ℕ
  pub above : group.last < place
  pub changes : changed place ≡ Some group.number

-- The group at this place goes on: from its first call on none gives or frees its number.
pub record GoesOn (changed : ℕ → Option ℕ) (groups : List Uses) (number at : ℕ) : Type 0 where
  pub group : Uses
  pub is : slice_get groups at ≡ Some group
  pub same : group.number ≡ number
  pub still : (place : ℕ) → group.first ≤ place → changed place ≢ Some number

-- which group of a number goes on behind the last call, if any
abbrev pub IsOpen : (ℕ → Option ℕ) → List Uses → ℕ → Option ℕ → Type 0
IsOpen changed groups number None = (i : ℕ) (group : Uses) → slice_get groups i ≡ Some group → group.number ≡ number → IsEnded changed group
IsOpen changed groups number (Some at) = GoesOn changed groups number at

-- of each number, which group of it goes on behind the last call
abbrev pub AreOpen : (ℕ → Option ℕ) → List Uses → (ℕ → Option ℕ) → Type 0
AreOpen changed groups going = (number : ℕ) → IsOpen changed groups number (going number)

-- a group of one call
abbrev pub first_use : ℕ → ℕ → Uses
first_use place number = record { number = number; first = place; last = place; count = 1 }

-- the group with one call more
abbrev pub longer : ℕ → Uses → Uses
longer place group = record { number = group.number; first = group.first; last = place; count = min (group.count + 1) (2 ^ 64 - 1) }

-- the groups, of which the one at a place goes on to a further call
abbrev pub longer_at : ℕ → ℕ → Option Uses → List Uses → List Uses
longer_at place at None groups = groups
longer_at place at (Some group) groups = slice_set groups at (longer place group)

-- a call at this place names the number: it is one of the group that goes on, or the first of a group
abbrev pub with_use : ℕ → ℕ → Option ℕ → List Uses → List Uses
with_use place number None groups = groups ++ first_use place number ∷ []
with_use place number (Some at) groups = longer_at place at (slice_get groups at) groups

-- the groups behind a call at this place, which names a number or not
abbrev pub uses_after : ℕ → Option ℕ → (ℕ → Option ℕ) → List Uses → List Uses
uses_after place None going groups = groups
uses_after place (Some number) going groups = with_use place number (going number) groups

-- which group of a number m goes on behind a call that names a number: where none did, the next one
abbrev pub open_with : ℕ → Option ℕ → ℕ → (ℕ → Option ℕ) → ℕ → Option ℕ
open_with number None next going m = cond (number == m) (Some next) (going m)
open_with number (Some at) next going m = going m

-- which group of a number goes on, as is noted of the calls so far
abbrev pub going_in : NumberUses → ℕ → Option ℕ
going_in uses = get nat_eq uses.going

-- where the next group comes, behind those of the calls so far
abbrev pub next_in : NumberUses → ℕ
next_in uses = length uses.groups.items

-- Of each number the group that goes on is what this says.
abbrev pub AreGoing : NumberUses → (ℕ → Option ℕ) → Type 0
AreGoing uses says = (m : ℕ) → going_in uses m ≡ says m

-- Which group of a number m goes on behind a call that names one number, and gives or frees another, if any: behind one
-- that gives or frees it, none.
abbrev pub open_after : Option ℕ → Option ℕ → ℕ → (ℕ → Option ℕ) → ℕ → Option ℕ
open_after (Some number) changed next going m = open_with number (going number) next going m
open_after None (Some number) next going m = cond (number == m) None (going m)
open_after None None next going m = going m
