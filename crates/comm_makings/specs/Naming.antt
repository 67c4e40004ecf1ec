-- What the numbers in a rank's calls mean, from its first call on: each call is read by what the calls before it gave.
use Rattle.std.specs.Prelude.{◌≡◌, ℕ, ◌+◌, ◌==◌, Bool, true, false, List, [], ◌∷◌, Option, Some, None, cond, length, nat_eq}
use Rattle.std.specs.Option.{option_and_then}
use Rattle.indexmap.specs.IndexMap.{IndexMap, get}
use Rattle.mpi_model.specs.declared.layout.comm.Stretch.{Stretch}
use Rattle.comm_makings.specs.Names.{always, gives_of, group_at, handles_after, handles_ended, is_taken, name_after, name_ended, next_call, number_given}
use Rattle.comm_makings.specs.declared.calls.Action.{Action}
use Rattle.comm_makings.specs.declared.calls.Action.TheVariants as actions
use Rattle.comm_makings.specs.declared.calls.CommCall.{CommCall}
use Rattle.comm_makings.specs.declared.calls.Given.{Given}
use Rattle.comm_makings.specs.declared.calls.GroupCall.{GroupCall}
use Rattle.comm_makings.specs.declared.calls.GroupCall.TheVariants as calls
use Rattle.comm_makings.specs.declared.calls.GroupName.{GroupName}
use Rattle.comm_makings.specs.declared.calls.GroupName.TheVariants as named
use Rattle.comm_makings.specs.declared.calls.Making.{Making}
use Rattle.comm_makings.specs.declared.calls.Making.TheVariants as makings
use Rattle.comm_makings.specs.declared.handle.Gives.{Gives}
use Rattle.comm_makings.specs.declared.handle.Gives.TheVariants as gives
use Rattle.comm_makings.specs.declared.handle.Meant.{Meant}
use Rattle.comm_makings.specs.declared.names.Names.{Names}

-- All handles that were given so far; which of them a number names, and which call gave the group that a number names.
pub record Naming : Type 0 where
  pub handles : List Stretch
  pub comms : ℕ → Option ℕ
  pub groups : ℕ → Option ℕ

-- what the numbers mean as these names say
abbrev pub naming_of : Names → Naming
naming_of names = record { handles = names.handles.items; comms = get nat_eq names.comms; groups = get nat_eq names.groups }

-- the number of the world or of MPI_COMM_SELF of the rank
abbrev pub taken_by : Names → ℕ → Bool
taken_by names = is_taken names.world names.own

-- Each number names what this says.
abbrev pub AreNamed : {S : Type 0} → IndexMap ℕ ℕ S → (ℕ → Option ℕ) → Type 0
AreNamed names says = (m : ℕ) → get nat_eq names m ≡ says m

-- the handles before the first call: the world's, and that of MPI_COMM_SELF where its number is told
abbrev pub first_handles : ℕ → Option ℕ → List Stretch
first_handles world None = always world ∷ []
first_handles world (Some own) = always world ∷ always own ∷ []

-- The number of MPI_COMM_SELF, where it is told, names the second handle.
abbrev pub own_name : Option ℕ → ℕ → Option ℕ
own_name None m = None
own_name (Some own) m = cond (own == m) (Some 1) None

-- Before the first call: the world is the first handle, and MPI_COMM_SELF, where its number is told, the second.
abbrev pub first_naming : ℕ → Option ℕ → Naming
first_naming world own = record { handles = first_handles world own; comms = λ m. cond (world == m) (Some 0) (own_name own m); groups = λ m. None }

-- the number of the communicator whose group a call gives
abbrev pub comm_of_group : GroupCall → Option ℕ
comm_of_group (calls.OfComm comm) = comm
comm_of_group (calls.OfRemote comm) = comm
comm_of_group _ = None

-- the number of the communicator that a call names
abbrev pub comm_named : Action → Option ℕ
comm_named (actions.Make parent making given) = parent
comm_named (actions.CommRank comm rank) = comm
comm_named (actions.Free comm) = comm
comm_named (actions.Group group given) = comm_of_group group
comm_named (actions.Join local leaders given) = local
comm_named (actions.Merge comm high given) = comm
comm_named (actions.GivesComm maker comm given) = comm
comm_named (actions.MakeObject maker parent given) = parent
comm_named (actions.EndObject object number) = None

-- the group that a making names
abbrev pub group_of_making : Making → GroupName
group_of_making (makings.Create group) = group
group_of_making (makings.CreateGroup group tag) = group
group_of_making _ = named.Unknown

-- the group that a call makes another of, or the first of two
abbrev pub first_of_group : GroupCall → GroupName
first_of_group (calls.OfComm comm) = named.Unknown
first_of_group (calls.OfRemote comm) = named.Unknown
first_of_group (calls.Incl group ranks) = group
first_of_group (calls.Excl group ranks) = group
first_of_group (calls.RangeIncl group ranges) = group
first_of_group (calls.RangeExcl group ranges) = group
first_of_group (calls.Union first second) = first
first_of_group (calls.Intersection first second) = first
first_of_group (calls.Difference first second) = first
first_of_group calls.Unread = named.Unknown

-- the second of two groups that a call makes another of
abbrev pub second_of_group : GroupCall → GroupName
second_of_group (calls.Union first second) = second
second_of_group (calls.Intersection first second) = second
second_of_group (calls.Difference first second) = second
second_of_group _ = named.Unknown

-- the group that a call names, or the first of two
abbrev pub group_named : Action → GroupName
group_named (actions.Make parent making given) = group_of_making making
group_named (actions.Group group given) = first_of_group group
group_named _ = named.Unknown

-- the second of two groups that a call names
abbrev pub second_named : Action → GroupName
second_named (actions.Group group given) = second_of_group group
second_named _ = named.Unknown

-- the number of the communicator of two leaders that a call names
abbrev pub bridge_of : Action → Option ℕ
bridge_of (actions.Join local leaders given) = leaders.bridge
bridge_of _ = None

-- what a call gives
abbrev pub gives_by : (ℕ → Bool) → ℕ → Bool → Action → Gives
gives_by taken place returned (actions.Make parent making given) = gives_of taken returned given place
gives_by taken place returned (actions.Join local leaders given) = gives_of taken returned given place
gives_by taken place returned (actions.Merge comm high given) = gives_of taken returned given place
gives_by taken place returned (actions.GivesComm maker comm given) = gives_of taken returned given place
gives_by taken place returned _ = gives.Nothing

-- what a call gives, as these names say
abbrev pub gives_as : Names → Bool → Given → Gives
gives_as names returned given = gives_of (taken_by names) returned given (length names.handles.items)

-- what the numbers in a call mean, by whether it returned and what it does
abbrev pub meant_of_action : (ℕ → Bool) → Naming → Bool → Action → Meant
meant_of_action taken naming returned action = record {
  comm = option_and_then naming.comms (comm_named action);
  gives = gives_by taken (length naming.handles) returned action;
  group = group_at naming.groups (group_named action);
  second = group_at naming.groups (second_named action);
  bridge = option_and_then naming.comms (bridge_of action);
}

-- the same, as these names say
abbrev pub meant_by : Names → Bool → Action → Meant
meant_by names returned action = meant_of_action (taken_by names) (naming_of names) returned action

-- what the numbers in a call mean
abbrev pub meant_in : (ℕ → Bool) → Naming → CommCall → Meant
meant_in taken naming call = meant_of_action taken naming call.returned call.action

-- what the numbers mean behind a call that gives a communicator, by the number that it gives, where there is one
abbrev pub after_number : (ℕ → Bool) → Naming → ℕ → Option ℕ → Naming
after_number taken naming call number = record {
  handles = handles_after taken number call naming.comms naming.handles;
  comms = name_after taken number (length naming.handles) naming.comms;
  groups = naming.groups;
}

-- the same, by what the call gives
abbrev pub after_given : (ℕ → Bool) → Naming → CommCall → Given → Naming
after_given taken naming call given = after_number taken naming call.call (number_given call.returned given)

-- what these names say behind a call that gives this number
abbrev pub with_number : Names → ℕ → ℕ → Naming
with_number names call number = after_number (taken_by names) (naming_of names) call (Some number)

-- what these names say behind a call that gives a communicator, by what is given
abbrev pub with_given : Names → CommCall → Given → Naming
with_given names call given = after_given (taken_by names) (naming_of names) call given

-- what the numbers mean from a call on, before which one freed a communicator: the call that frees it still names it
abbrev pub after_free : (ℕ → Bool) → Naming → ℕ → Option ℕ → Naming
after_free taken naming call None = naming
after_free taken naming call (Some number) = record {
  handles = handles_ended (taken number) call (naming.comms number) naming.handles;
  comms = name_ended (taken number) number naming.comms;
  groups = naming.groups;
}

-- what these names say behind a call from which on this number names nothing
abbrev pub without_number : Names → ℕ → ℕ → Naming
without_number names call number = after_free (taken_by names) (naming_of names) call (Some number)

-- the number of the group that a call gives
abbrev pub group_given : Bool → GroupName → Option ℕ
group_given false given = None
group_given true named.Empty = None
group_given true named.Unknown = None
group_given true (named.Number number) = Some number

-- Behind the call that gives it a number names the new group.
abbrev pub group_after : ℕ → Option ℕ → (ℕ → Option ℕ) → ℕ → Option ℕ
group_after at None before m = before m
group_after at (Some number) before m = cond (number == m) (Some at) (before m)

-- what the numbers mean behind a call that gives a group
abbrev pub after_group : ℕ → Naming → CommCall → GroupName → Naming
after_group at naming call given = record { handles = naming.handles; comms = naming.comms; groups = group_after at (group_given call.returned given) naming.groups }

-- what the numbers mean behind a call, by what it does
abbrev pub after_action : (ℕ → Bool) → ℕ → Naming → CommCall → Action → Naming
after_action taken at naming call (actions.Make parent making given) = after_given taken naming call given
after_action taken at naming call (actions.CommRank comm rank) = naming
after_action taken at naming call (actions.Free comm) = after_free taken naming (next_call call.call) comm
after_action taken at naming call (actions.Group group given) = after_group at naming call given
after_action taken at naming call (actions.Join local leaders given) = after_given taken naming call given
after_action taken at naming call (actions.Merge comm high given) = after_given taken naming call given
after_action taken at naming call (actions.GivesComm maker comm given) = after_given taken naming call given
after_action taken at naming call (actions.MakeObject maker parent given) = naming
after_action taken at naming call (actions.EndObject object number) = naming

-- what the numbers mean behind a call, which stands at this place of the rank's list
abbrev pub naming_after : (ℕ → Bool) → ℕ → Naming → CommCall → Naming
naming_after taken at naming call = after_action taken at naming call call.action

-- what each call means
abbrev pub meant_from : (ℕ → Bool) → ℕ → Naming → List CommCall → List Meant
meant_from taken at naming [] = []
meant_from taken at naming (call ∷ calls) = meant_in taken naming call ∷ meant_from taken (at + 1) (naming_after taken at naming call) calls

-- what the numbers mean behind the last call
abbrev pub naming_from : (ℕ → Bool) → ℕ → Naming → List CommCall → Naming
naming_from taken at naming [] = naming
naming_from taken at naming (call ∷ calls) = naming_from taken (at + 1) (naming_after taken at naming call) calls

-- what the calls of a rank mean
abbrev pub meant_of : ℕ → Option ℕ → List CommCall → List Meant
meant_of world own calls = meant_from (is_taken world own) 0 (first_naming world own) calls

-- the handles of a rank, in the order in which its calls give them
abbrev pub handles_of : ℕ → Option ℕ → List CommCall → List Stretch
handles_of world own calls = (naming_from (is_taken world own) 0 (first_naming world own) calls).handles
