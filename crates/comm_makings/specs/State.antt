-- What is derived so far is right: each communicator and each group is one that derives, and a handle that stands for a
-- derived communicator is that of one of its members.
use Rattle.std.specs.Prelude.{◌≡◌, ◌⊎◌, ◌+◌, ℕ, Bool, true, false, List, Option, Some, None, Vec, length, nat_le}
use Rattle.std.specs.List.{slice_get}
use Rattle.std.specs.Option.{option_and_then}
use Rattle.std.specs.declared.alloc.Global.{Global}
use Rattle.comm_makings.specs.Derives.{Derives, communicator, intercomm, kth_calls, member_with, members_at, ranks_in, ranks_of, read_to}
use Rattle.comm_makings.specs.Each.{list_in}
use Rattle.comm_makings.specs.Intercomms.{first_size}
use Rattle.comm_makings.specs.Made.{IsMakingOrder}
use Rattle.comm_makings.specs.Selection.{Selection}
use Rattle.comm_makings.specs.declared.calls.RankCalls.{RankCalls}
use Rattle.comm_makings.specs.declared.group_value.GroupValue.{GroupValue}
use Rattle.comm_makings.specs.declared.group_value.GroupValue.TheVariants as values
use Rattle.comm_makings.specs.declared.handle.GroupAt.TheVariants as groups
use Rattle.comm_makings.specs.declared.here.Here.{Here}
use Rattle.comm_makings.specs.declared.parts.Outcome.{Outcome}
use Rattle.comm_makings.specs.declared.parts.Outcome.TheVariants as outcomes
use Rattle.comm_makings.specs.declared.run.Gained.{Gained}
use Rattle.comm_makings.specs.declared.run.Gained.TheVariants as gains
use Rattle.comm_makings.specs.declared.run.Run.{Run}
use Rattle.comm_makings.specs.declared.state.Made.{Made}
use Rattle.comm_makings.specs.declared.state.Member.{Member}
use Rattle.comm_makings.specs.declared.state.Order.{Order}
use Rattle.comm_makings.specs.declared.state.Progress.{Progress}
use Rattle.comm_makings.specs.declared.state.Progress.TheVariants as progress
use Rattle.comm_makings.specs.declared.state.HandleState.{HandleState}
use Rattle.comm_makings.specs.declared.state.HandleState.TheVariants as standings
use Rattle.comm_makings.specs.declared.view.RankView.{RankView}

-- the sizes of a communicator's dimensions, where it is a grid and they are known
abbrev pub dims_of : Made → Option (List ℕ)
dims_of comm = list_in comm.dims

-- a communicator that derives, with its ranks beside its members
pub record IsDerivedComm (ranks : List RankCalls) (views : List RankView) (comm : Made) : Type 0 where
  pub derives : Derives ranks views (communicator comm.members.items (dims_of comm) comm.order)
  pub same_ranks : comm.ranks.items ≡ ranks_in comm.members.items
  pub one_group : comm.remote_size ≡ 0

-- an intercommunicator that derives, with its ranks beside its members
pub record IsDerivedInter (ranks : List RankCalls) (views : List RankView) (inter : Made) : Type 0 where
  pub derives : Derives ranks views (intercomm inter.members.items inter.remote_size inter.order)
  pub same_ranks : inter.ranks.items ≡ ranks_in inter.members.items

-- Each of these intercommunicators derives.
pub record AreInters (ranks : List RankCalls) (views : List RankView) (inters : List Made) : Type 0 where
  pub each : (at : ℕ) (inter : Made) → slice_get inters at ≡ Some inter → IsDerivedInter ranks views inter

-- Each of these communicators derives.
pub record AreDerived (ranks : List RankCalls) (views : List RankView) (comms : List Made) : Type 0 where
  pub each : (at : ℕ) (comm : Made) → slice_get comms at ≡ Some comm → IsDerivedComm ranks views comm

-- how a handle of a rank stands
abbrev pub standing_at : List (Vec HandleState Global) → ℕ → ℕ → Option HandleState
standing_at rows rank handle = option_and_then (λ row. slice_get row.items handle) (slice_get rows rank)

-- A handle of a rank stands for the derived communicator at this place.
abbrev pub StandsFor : List (Vec HandleState Global) → ℕ → ℕ → ℕ → Type 0
StandsFor rows rank handle place = standing_at rows rank handle ≡ Some (standings.Derived place)

-- The rank is a member, by this handle.
abbrev pub IsMember : List Member → ℕ → ℕ → Type 0
IsMember members rank handle = (place : ℕ) × (slice_get members place ≡ Some (member_with handle rank))

-- The rank is a member, by this handle, of the communicator at this place.
pub record IsMemberOf (comms : List Made) (place rank handle : ℕ) : Type 0 where
  pub comm : Made
  pub here : slice_get comms place ≡ Some comm
  pub member : IsMember comm.members.items rank handle

-- A handle of a rank stands for the derived intercommunicator at this place, of whose groups the rank is in the second
-- or in the first.
abbrev pub StandsInter : List (Vec HandleState Global) → ℕ → ℕ → ℕ → Bool → Type 0
StandsInter rows rank handle place second = standing_at rows rank handle ≡ Some (standings.Inter place second)

-- The rank is a member, by this handle, of the second group or of the first, which has so many members.
abbrev pub IsOfSide : List Member → ℕ → ℕ → ℕ → Bool → Type 0
IsOfSide members size rank handle second = (place : ℕ) × (slice_get members place ≡ Some (member_with handle rank)) × (nat_le size place ≡ second)

-- The same of the intercommunicator at this place.
pub record IsSideOf (inters : List Made) (place rank handle : ℕ) (second : Bool) : Type 0 where
  pub inter : Made
  pub here : slice_get inters place ≡ Some inter
  pub member : IsOfSide inter.members.items (first_size inter.members.items inter.remote_size) rank handle second

-- A handle of any rank stands for an intercommunicator only where the rank is a member of it by that handle.
pub record AreInterMembers (inters : List Made) (rows : List (Vec HandleState Global)) : Type 0 where
  pub each : (rank handle place : ℕ) (second : Bool) → StandsInter rows rank handle place second → IsSideOf inters place rank handle second

-- A handle stands for a communicator or an intercommunicator only where it is that of a member.
pub record AreMembersIn (comms inters : List Made) (rank : ℕ) (row : List HandleState) : Type 0 where
  pub each : (handle place : ℕ) → slice_get row handle ≡ Some (standings.Derived place) → IsMemberOf comms place rank handle
  pub sides : (handle place : ℕ) (second : Bool) → slice_get row handle ≡ Some (standings.Inter place second) → IsSideOf inters place rank handle second

-- A handle of any rank stands for a communicator only where the rank is a member of it by that handle.
pub record AreMembers (comms : List Made) (rows : List (Vec HandleState Global)) : Type 0 where
  pub each : (rank handle place : ℕ) → StandsFor rows rank handle place → IsMemberOf comms place rank handle

-- the group that a call of a rank gives
abbrev pub IsDerivedGroup : List RankCalls → List RankView → List Made → ℕ → ℕ → GroupValue → Type 0
IsDerivedGroup ranks views comms rank at values.Waits = Unit {0}
IsDerivedGroup ranks views comms rank at values.Unknown = Unit {0}
IsDerivedGroup ranks views comms rank at (values.Whole place) = (comm : Made) × (slice_get comms place ≡ Some comm) × Derives ranks views (ranks_of rank (groups.Given at) comm.ranks.items)
IsDerivedGroup ranks views comms rank at (values.Listed list) = Derives ranks views (ranks_of rank (groups.Given at) list.items)

-- The groups that the calls of a rank give derive, where they are known.
pub record AreDerivedGroups (ranks : List RankCalls) (views : List RankView) (comms : List Made) (rank : ℕ) (row : List GroupValue) : Type 0 where
  pub each : (at : ℕ) (value : GroupValue) → slice_get row at ≡ Some value → IsDerivedGroup ranks views comms rank at value

-- The groups that the calls of all ranks give derive, where they are known.
pub record AreAllDerivedGroups (ranks : List RankCalls) (views : List RankView) (comms : List Made) (rows : List (Vec GroupValue Global)) : Type 0 where
  pub each : (rank : ℕ) (row : Vec GroupValue Global) → slice_get rows rank ≡ Some row → AreDerivedGroups ranks views comms rank row.items

-- So many makings of the communicator at a place are read.
pub record IsReadTo (ranks : List RankCalls) (views : List RankView) (comms : List Made) (at k : ℕ) : Type 0 where
  pub comm : Made
  pub here : slice_get comms at ≡ Some comm
  pub reads : Derives ranks views (read_to comm.members.items (dims_of comm) k)

-- As many makings of each communicator are read as is noted, where it isn't over.
pub record AreRead (ranks : List RankCalls) (views : List RankView) (comms : List Made) (next : List Progress) : Type 0 where
  pub each : (at k : ℕ) → slice_get next at ≡ Some (progress.At k) → IsReadTo ranks views comms at k

-- a communicator stays at its place
pub record KeepsComms (old new : List Made) : Type 0 where
  pub each : (at : ℕ) (comm : Made) → slice_get old at ≡ Some comm → slice_get new at ≡ Some comm

-- What is derived so far is right: the communicators and groups derive, and handles stand for communicators only as
-- those of members.
pub record IsRight (ranks : List RankCalls) (views : List RankView) (stand : List (Vec HandleState Global)) (groups : List (Vec GroupValue Global)) (comms : List Made) (next : List Progress) (inters : List Made) : Type 0 where
  pub comms_derive : AreDerived ranks views comms
  pub handles_named : AreMembers comms stand
  pub groups_derive : AreAllDerivedGroups ranks views comms groups
  pub read : AreRead ranks views comms next
  pub read_each : length next ≡ length comms
  pub inters_derive : AreInters ranks views inters
  pub sides : AreInterMembers inters stand

-- The same of a run.
abbrev pub IsRun : List RankCalls → List RankView → Run → Type 0
IsRun ranks views run = IsRight ranks views run.standings.items run.values.items run.comms.items run.next.items run.inters.items

-- A handle stands for a derived communicator or intercommunicator only where it did before.
pub record KeepsDerived (old new : List (Vec HandleState Global)) : Type 0 where
  pub each : (rank handle place : ℕ) → StandsFor new rank handle place → StandsFor old rank handle place
  pub inters : (rank handle place : ℕ) (second : Bool) → StandsInter new rank handle place second → StandsInter old rank handle place second

-- Only this handle stands otherwise than before.
pub record SetsStanding (old new : List (Vec HandleState Global)) (rank handle : ℕ) (standing : HandleState) : Type 0 where
  pub each : (r h : ℕ) (s : HandleState) → standing_at new r h ≡ Some s → (standing_at old r h ≡ Some s) ⊎ ((r ≡ rank) × (h ≡ handle) × (s ≡ standing))

-- The member's handle may stand for the communicator at this place, and otherwise none that did not before.
pub record BindsMember (member : Member) (place : ℕ) (old new : List (Vec HandleState Global)) : Type 0 where
  pub each : (rank handle at : ℕ) → StandsFor new rank handle at → StandsFor old rank handle at ⊎ ((at ≡ place) × (member ≡ member_with handle rank))
  pub inters : (rank handle at : ℕ) (second : Bool) → StandsInter new rank handle at second → StandsInter old rank handle at second

-- The same of all members.
pub record NamesMembers (members : List Member) (place : ℕ) (old new : List (Vec HandleState Global)) : Type 0 where
  pub each : (rank handle at : ℕ) → StandsFor new rank handle at → StandsFor old rank handle at ⊎ ((at ≡ place) × IsMember members rank handle)
  pub inters : (rank handle at : ℕ) (second : Bool) → StandsInter new rank handle at second → StandsInter old rank handle at second

-- The member's handle may stand for the intercommunicator at this place, as one of this group, and otherwise none that
-- did not before.
pub record BindsInter (member : Member) (place : ℕ) (second : Bool) (old new : List (Vec HandleState Global)) : Type 0 where
  pub each : (rank handle at : ℕ) → StandsFor new rank handle at → StandsFor old rank handle at
  pub inters : (rank handle at : ℕ) (side : Bool) → StandsInter new rank handle at side
      → StandsInter old rank handle at side ⊎ ((at ≡ place) × (side ≡ second) × (member ≡ member_with handle rank))

-- The same of all members, of which the first so many are the first group.
pub record NamesInter (members : List Member) (size place : ℕ) (old new : List (Vec HandleState Global)) : Type 0 where
  pub each : (rank handle at : ℕ) → StandsFor new rank handle at → StandsFor old rank handle at
  pub inters : (rank handle at : ℕ) (second : Bool) → StandsInter new rank handle at second
      → StandsInter old rank handle at second ⊎ ((at ≡ place) × IsOfSide members size rank handle second)

-- No handle of a rank stands for a communicator or an intercommunicator.
pub record NoneStands (row : List HandleState) : Type 0 where
  pub each : (handle place : ℕ) → slice_get row handle ≡ Some (standings.Derived place) → ⊥
  pub inters : (handle place : ℕ) (second : Bool) → slice_get row handle ≡ Some (standings.Inter place second) → ⊥

-- No handle of any rank stands for a communicator.
pub record NoneStandsAt (rows : List (Vec HandleState Global)) : Type 0 where
  pub each : (rank : ℕ) (row : Vec HandleState Global) → slice_get rows rank ≡ Some row → NoneStands row.items

-- The ranks of the group are not known, whether they may become so or not.
abbrev pub IsNotListed : GroupValue → Type 0
IsNotListed values.Waits = Unit {0}
IsNotListed values.Unknown = Unit {0}
IsNotListed (values.Whole place) = ⊥
IsNotListed (values.Listed list) = ⊥

-- No group is known.
pub record NoneListed (row : List GroupValue) : Type 0 where
  pub each : (at : ℕ) (value : GroupValue) → slice_get row at ≡ Some value → IsNotListed value

-- No group of any rank is known.
pub record NoneListedAt (rows : List (Vec GroupValue Global)) : Type 0 where
  pub each : (rank : ℕ) (row : Vec GroupValue Global) → slice_get rows rank ≡ Some row → NoneListed row.items

-- the communicators that are made, where some are
abbrev pub parts_in : Outcome → Option (List Selection)
parts_in (outcomes.Parts made) = Some made.items
parts_in _ = None

-- Where communicators are made, they are such.
abbrev pub IfParts : (List Selection → Type 0) → Outcome → Type 0
IfParts P outcome = (parts : List Selection) → parts_in outcome ≡ Some parts → P parts

-- the making is read: what it makes is told, or it is merely left out
abbrev pub is_read : Outcome → Bool
is_read (outcomes.Parts made) = true
is_read outcomes.Untold = true
is_read outcomes.Unsound = false
is_read outcomes.Waits = false

-- These are the k-th calls of the members of a parent, before which all makings are read.
pub record AreNext (ranks : List RankCalls) (views : List RankView) (members : List Member) (dims : Option (List ℕ)) (all : List (Option Here)) (k : ℕ) : Type 0 where
  pub calls : all ≡ kth_calls ranks views k members
  pub reads : Derives ranks views (read_to members dims k)

-- Where all makings before are read, each communicator of the outcome derives, and the making is read unless it is
-- unsound.
pub record IsDerivedOutcome (ranks : List RankCalls) (views : List RankView) (members : List Member) (dims : Option (List ℕ)) (all : List (Option Here)) (outcome : Outcome) : Type 0 where
  pub each : (k : ℕ) (parts : List Selection) (at : ℕ) (part : Selection) (order : Order) → AreNext ranks views members dims all k
      → parts_in outcome ≡ Some parts → slice_get parts at ≡ Some part → IsMakingOrder part.places all order
      → Derives ranks views (communicator (members_at members all part.places) part.dims order)
  pub read : (k : ℕ) → AreNext ranks views members dims all k → is_read outcome ≡ true → Derives ranks views (read_to members dims (k + 1))

-- the communicator of a part, as its members' calls give it
pub record IsMadeOf (members : List Member) (all : List (Option Here)) (part : Selection) (comm : Made) : Type 0 where
  pub chosen : comm.members.items ≡ members_at members all part.places
  pub same_ranks : comm.ranks.items ≡ ranks_in comm.members.items
  pub dims : dims_of comm ≡ part.dims
  pub order : IsMakingOrder part.places all comm.order
  pub one_group : comm.remote_size ≡ 0

-- the communicator of one of these parts
abbrev pub IsOfPart : List Member → List (Option Here) → List Selection → Made → Type 0
IsOfPart members all parts comm = (i : ℕ) × (part : Selection) × (slice_get parts i ≡ Some part) × IsMadeOf members all part comm

-- Each communicator is that of one of these parts.
pub record AreMadeOf (members : List Member) (all : List (Option Here)) (parts : List Selection) (made : List Made) : Type 0 where
  pub each : (at : ℕ) (comm : Made) → slice_get made at ≡ Some comm → IsOfPart members all parts comm

-- the communicators that a making gives are such
abbrev pub IfComms : (List Made → Type 0) → Gained → Type 0
IfComms P (gains.Comms made) = P made.items
IfComms P gains.Untold = Unit {0}
IfComms P gains.Unsound = Unit {0}
IfComms P gains.Waits = Unit {0}

-- the making is read
abbrev pub is_gained : Gained → Bool
is_gained (gains.Comms made) = true
is_gained gains.Untold = true
is_gained gains.Unsound = false
is_gained gains.Waits = false

-- the same, or unsound in place of one that waits
abbrev pub IsEnded : Gained → Gained → Type 0
IsEnded gains.Waits ended = is_gained ended ≡ false
IsEnded gained ended = ended ≡ gained

-- Where all makings before are read, the communicators that one gives derive, and it is read unless it is unsound.
pub record IsOfDerived (ranks : List RankCalls) (views : List RankView) (members : List Member) (dims : Option (List ℕ)) (all : List (Option Here)) (gained : Gained) : Type 0 where
  pub comms : (k : ℕ) → AreNext ranks views members dims all k → IfComms (AreDerived ranks views) gained
  pub read : (k : ℕ) → AreNext ranks views members dims all k → is_gained gained ≡ true → Derives ranks views (read_to members dims (k + 1))

-- a communicator that is there from the first call on
pub record IsFirstComm (members : List Member) (placed : Order) (comm : Made) : Type 0 where
  pub same : comm.members.items ≡ members
  pub same_ranks : comm.ranks.items ≡ ranks_in members
  pub dims : dims_of comm ≡ None
  pub order : comm.order ≡ placed
  pub one_group : comm.remote_size ≡ 0
