-- The communicators and groups that the calls of all ranks make, from the world on (MPI 4.0, chapters 7 and 8).
use Rattle.std.specs.Prelude.{◌≡◌, ◌+◌, ◌++◌, ℕ, ℤ, List, [], ◌∷◌, Option, Some, None, length, map, nat_le, not, true, false}
use Rattle.std.specs.List.{filter_map, list_any, range_with_len, slice_get}
use Rattle.std.specs.Option.{option_and_then, option_map}
use Rattle.comm_groups.specs.Groups.{has}
use Rattle.comm_makings.specs.GroupKeys.{GroupKey, Times}
use Rattle.comm_makings.specs.Groups.{made_of_one, made_of_two}
use Rattle.comm_makings.specs.Here.{call_at, gives_later, gives_unknown, here_at, kth_at, making_at, meant_at}
use Rattle.comm_makings.specs.Intercomms.{IsJoining, IsMerge, first_size, is_copy, side, whole}
use Rattle.comm_makings.specs.Made.{IsMakingOrder, member_at, own_order, world_order}
use Rattle.comm_makings.specs.Makes.{AreGiven, IsMadeBy, IsOneMaking, said_by}
use Rattle.comm_makings.specs.Selection.{Selection}
use Rattle.comm_makings.specs.Untold.{AreLeft}
use Rattle.comm_makings.specs.declared.answer.MadeBy.{MadeBy}
use Rattle.comm_makings.specs.declared.answer.MadeBy.TheVariants as functions
use Rattle.comm_makings.specs.declared.calls.Action.{Action}
use Rattle.comm_makings.specs.declared.calls.Action.TheVariants as actions
use Rattle.comm_makings.specs.declared.calls.GroupCall.{GroupCall}
use Rattle.comm_makings.specs.declared.calls.GroupCall.TheVariants as calls
use Rattle.comm_makings.specs.declared.calls.Making.{Making}
use Rattle.comm_makings.specs.declared.calls.Making.TheVariants as makings
use Rattle.comm_makings.specs.declared.calls.RankCalls.{RankCalls}
use Rattle.comm_makings.specs.declared.handle.GroupAt.{GroupAt}
use Rattle.comm_makings.specs.declared.handle.GroupAt.TheVariants as groups
use Rattle.comm_makings.specs.declared.here.Here.{Here}
use Rattle.comm_makings.specs.declared.state.Member.{Member}
use Rattle.comm_makings.specs.declared.state.Order.{Order}
use Rattle.comm_makings.specs.declared.view.RankView.{RankView}

-- What may derive: a communicator, by its members in order, its dimensions and its order in a layout; that so many
-- makings of a parent are read, each of which agrees or is merely left out; a group that a call of a rank names, by its
-- ranks; an intercommunicator, by the members of its two groups, one behind the other, the size of the second, and its
-- order; what the first calls of MPI_Comm_create_group of a rank on a handle name; and that one of these is the k-th,
-- counted from 0, which names this group with this tag.
pub data Thing : Type 0 where
  communicator : List Member → Option (List ℕ) → Order → Thing
  read_to : List Member → Option (List ℕ) → ℕ → Thing
  ranks_of : ℕ → GroupAt → List ℕ → Thing
  intercomm : List Member → ℕ → Order → Thing
  keys_of : ℕ → ℕ → List GroupKey → Thing
  kth_with : ℕ → ℕ → GroupKey → ℕ → Here → Thing

-- a member of this rank, which names the communicator by this handle
abbrev pub member_with : ℕ → ℕ → Member
member_with handle rank = record { rank = rank; handle = Some handle }

-- Each rank has the world as its first handle.
abbrev pub world_members : ℕ → List Member
world_members count = map (member_with 0) (range_with_len 0 count)

-- the ranks of the members in the run
abbrev pub ranks_in : List Member → List ℕ
ranks_in members = map (λ m. m.rank) members

-- the k-th call of each member that makes communicators of the parent by all its members
abbrev pub kth_calls : List RankCalls → List RankView → ℕ → List Member → List (Option Here)
kth_calls ranks views k members = map (kth_at ranks views k) members

-- the members at these places of the parent, each with the handle that its own call gives
abbrev pub members_at : List Member → List (Option Here) → List ℕ → List Member
members_at members all places = filter_map (member_at members all) places

-- At these places of a list of ranks stand those of a group, in its order.
abbrev pub ArePlaces : List ℕ → List ℕ → List ℕ → Type 0
ArePlaces ranks places group = map (slice_get ranks) places ≡ map Some group

-- what an action says of the group that it gives
abbrev pub group_call : Action → Option GroupCall
group_call (actions.Group group given) = Some group
group_call _ = None

-- the group call of a rank at a place of its list
abbrev pub group_call_at : List RankCalls → ℕ → ℕ → Option GroupCall
group_call_at ranks rank at = option_and_then (λ call. group_call call.action) (call_at ranks rank at)

-- the handle of the communicator that a call of a rank names
abbrev pub comm_meant : List RankView → ℕ → ℕ → Option ℕ
comm_meant views rank at = option_and_then (λ m. m.comm) (meant_at views rank at)

-- the group that a call of a rank names, or the first of two
abbrev pub first_meant : List RankView → ℕ → ℕ → Option GroupAt
first_meant views rank at = option_map (λ m. m.group) (meant_at views rank at)

-- the second of two groups that a call of a rank names
abbrev pub second_meant : List RankView → ℕ → ℕ → Option GroupAt
second_meant views rank at = option_map (λ m. m.second) (meant_at views rank at)

-- The call is MPI_Comm_group: it gives the group of a communicator (MPI 4.0, 7.3.2).
abbrev pub is_of_comm : GroupCall → Type 0
is_of_comm (calls.OfComm comm) = Unit {0}
is_of_comm _ = ⊥

-- The call is MPI_Comm_remote_group: it gives the group of an intercommunicator in which the caller isn't (MPI 4.0,
-- 7.6.1).
abbrev pub is_of_remote : GroupCall → Type 0
is_of_remote (calls.OfRemote comm) = Unit {0}
is_of_remote _ = ⊥

-- the place of a rank's k-th call of MPI_Comm_create_group on a handle (MPI 4.0, 7.4.2)
abbrev pub by_group_at : List RankView → ℕ → ℕ → ℕ → Option ℕ
by_group_at views rank handle k = option_and_then (λ v. option_and_then (λ calls. slice_get calls.items k) (slice_get v.by_group.items handle)) (slice_get views rank)

-- the tag that a call of MPI_Comm_create_group says
abbrev pub tag_in : Making → Option ℤ
tag_in (makings.CreateGroup group tag) = tag
tag_in _ = None

-- One making of all members of a parent, with what its k-th calls make.
pub record IsMaking (ranks : List RankCalls) (views : List RankView) (dims : Option (List ℕ)) (all : List (Option Here)) (parts : List Selection) : Type 0 where
  pub function : MadeBy
  pub one : IsOneMaking function all
  pub made : IsMadeBy ranks views dims all function parts
  pub given : AreGiven (gives_later function) all parts

-- A communicator of a MPI_Comm_create: a group that the calls offer, in its order, where one of its own offers it.
pub record IsOfOffered (members : List Member) (all : List (Option Here)) (offered : ℕ → List ℕ) (part : Selection) : Type 0 where
  pub place : ℕ
  pub here : Here
  pub called : slice_get all place ≡ Some (Some here)
  pub within : has (offered place) here.rank ≡ true
  pub places : ArePlaces (ranks_in members) part.places (offered place)
  pub dims : part.dims ≡ None

-- One MPI_Comm_create of all members of a parent, with what is made of the groups that its calls offer.
pub record IsCreation (members : List Member) (all : List (Option Here)) (offered : ℕ → List ℕ) (parts : List Selection) : Type 0 where
  pub one : IsOneMaking functions.Create all
  pub made : (at : ℕ) (part : Selection) → slice_get parts at ≡ Some part → IsOfOffered members all offered part
  pub given : AreGiven false all parts

-- the call of MPI_Comm_create_group of a rank on a handle that has so many before it, with this tag
pub record IsGroupCall (ranks : List RankCalls) (views : List RankView) (rank handle before : ℕ) (tag : ℤ) (here : Here) : Type 0 where
  pub at : ℕ
  pub among : by_group_at views rank handle before ≡ Some at
  pub called : here_at ranks views rank at ≡ Some here
  pub tagged : said_by tag_in (making_at ranks rank at) ≡ Some tag

-- the member at this place of the parent, by its handle
pub record IsCaller (members : List Member) (place : ℕ) : Type 0 where
  pub member : Member
  pub is_member : slice_get members place ≡ Some member
  pub handle : ℕ
  pub named : member.handle ≡ Some handle

-- One MPI_Comm_create_group: calls of members of one group, which lies in the parent.
pub record IsGroupMaking (members : List Member) (group places : List ℕ) (all : List (Option Here)) : Type 0 where
  pub within : ArePlaces (ranks_in members) places group
  pub callers : (place : ℕ) (here : Here) → slice_get all place ≡ Some (Some here) → IsCaller members place
  pub readable : list_any gives_unknown all ≡ false
  pub given : AreGiven false all (record { places = places; dims = None } ∷ [])

-- A communicator or a group derives: it is the world, MPI_COMM_SELF or the empty group, or calls make it of ones that
-- derive. All members of a communicator call what makes others of it in one order (MPI 4.0, 7.4), so a making counts
-- only behind ones that agree or are merely left out.
pub data Derives (ranks : List RankCalls) (views : List RankView) : Thing → Type 0 where
  -- the world, and MPI_COMM_SELF of a rank that tells its number
  world : Derives ranks views (communicator (world_members (length ranks)) None world_order)
  own : (rank : ℕ) (calls : RankCalls) (number : ℕ) → slice_get ranks rank ≡ Some calls → calls.own ≡ Some number
      → Derives ranks views (communicator (member_with 1 rank ∷ []) None (own_order rank))
  -- Of a communicator no making is read at first.
  unread : (members : List Member) (dims : Option (List ℕ)) (order : Order) → Derives ranks views (communicator members dims order)
      → Derives ranks views (read_to members dims 0)
  -- the k-th calls of all members of a parent
  made : (members : List Member) (dims : Option (List ℕ)) (k : ℕ) (parts : List Selection) (at : ℕ) (part : Selection) (order : Order)
      → Derives ranks views (read_to members dims k)
      → IsMaking ranks views dims (kth_calls ranks views k members) parts → slice_get parts at ≡ Some part
      → IsMakingOrder part.places (kth_calls ranks views k members) order
      → Derives ranks views (communicator (members_at members (kth_calls ranks views k members) part.places) part.dims order)
  read_making : (members : List Member) (dims : Option (List ℕ)) (k : ℕ) (parts : List Selection) → Derives ranks views (read_to members dims k)
      → IsMaking ranks views dims (kth_calls ranks views k members) parts → Derives ranks views (read_to members dims (k + 1))
  read_left : (members : List Member) (dims : Option (List ℕ)) (k : ℕ) → Derives ranks views (read_to members dims k)
      → AreLeft (kth_calls ranks views k members) → Derives ranks views (read_to members dims (k + 1))
  -- the same of MPI_Comm_create, with the group that each call names
  created : (members : List Member) (dims : Option (List ℕ)) (k : ℕ) (offered : ℕ → List ℕ) (parts : List Selection) (at : ℕ) (part : Selection) (order : Order)
      → Derives ranks views (read_to members dims k)
      → ((place : ℕ) (here : Here) → slice_get (kth_calls ranks views k members) place ≡ Some (Some here) → Derives ranks views (ranks_of here.rank here.group (offered place)))
      → IsCreation members (kth_calls ranks views k members) offered parts → slice_get parts at ≡ Some part
      → IsMakingOrder part.places (kth_calls ranks views k members) order
      → Derives ranks views (communicator (members_at members (kth_calls ranks views k members) part.places) part.dims order)
  read_creation : (members : List Member) (dims : Option (List ℕ)) (k : ℕ) (offered : ℕ → List ℕ) (parts : List Selection) → Derives ranks views (read_to members dims k)
      → ((place : ℕ) (here : Here) → slice_get (kth_calls ranks views k members) place ≡ Some (Some here) → Derives ranks views (ranks_of here.rank here.group (offered place)))
      → IsCreation members (kth_calls ranks views k members) offered parts → Derives ranks views (read_to members dims (k + 1))
  -- what the first calls of MPI_Comm_create_group of a rank on a handle name
  keys_none : (rank handle : ℕ) → Derives ranks views (keys_of rank handle [])
  keys_more : (rank handle : ℕ) (keys : List GroupKey) (key : GroupKey) (here : Here) → Derives ranks views (keys_of rank handle keys)
      → IsGroupCall ranks views rank handle (length keys) key.tag here → Derives ranks views (ranks_of here.rank here.group key.group)
      → Derives ranks views (keys_of rank handle (keys ++ key ∷ []))
  -- the k-th of them with one group and tag: so many before it have these
  kth : (rank handle : ℕ) (before : List GroupKey) (key : GroupKey) (k : ℕ) (here : Here) → Derives ranks views (keys_of rank handle before)
      → IsGroupCall ranks views rank handle (length before) key.tag here → Derives ranks views (ranks_of here.rank here.group key.group) → Times key before k
      → Derives ranks views (kth_with rank handle key k here)
  -- the calls of MPI_Comm_create_group on the parent that are, each of its member, the k-th with one group and tag
  by_group : (members : List Member) (dims : Option (List ℕ)) (was order : Order) (key : GroupKey) (k : ℕ) (places : List ℕ) (all : List (Option Here))
      → Derives ranks views (communicator members dims was)
      → ((place : ℕ) (here : Here) (member : Member) (handle : ℕ) → slice_get all place ≡ Some (Some here) → slice_get members place ≡ Some member → member.handle ≡ Some handle
      → Derives ranks views (kth_with member.rank handle key k here))
      → IsGroupMaking members key.group places all → IsMakingOrder places all order
      → Derives ranks views (communicator (members_at members all places) None order)
  -- the group of a communicator
  of_comm : (members : List Member) (dims : Option (List ℕ)) (order : Order) (rank at handle : ℕ) (call : GroupCall)
      → Derives ranks views (communicator members dims order) → (place : ℕ) → slice_get members place ≡ Some (member_with handle rank)
      → group_call_at ranks rank at ≡ Some call → is_of_comm call → comm_meant views rank at ≡ Some handle
      → Derives ranks views (ranks_of rank (groups.Given at) (ranks_in members))
  empty : (rank : ℕ) → Derives ranks views (ranks_of rank groups.Empty [])
  -- a group that is made of one or two others
  of_one : (rank at : ℕ) (call : GroupCall) (group : GroupAt) (others made : List ℕ)
      → group_call_at ranks rank at ≡ Some call → first_meant views rank at ≡ Some group
      → Derives ranks views (ranks_of rank group others) → made_of_one call others ≡ Some made
      → Derives ranks views (ranks_of rank (groups.Given at) made)
  -- The groups of two communicators are joined.
  joined : (first second bridge : List Member) (first_dims second_dims bridge_dims : Option (List ℕ)) (first_order second_order bridge_order order : Order) (all : List (Option Here))
      → Derives ranks views (communicator first first_dims first_order) → Derives ranks views (communicator second second_dims second_order)
      → Derives ranks views (communicator bridge bridge_dims bridge_order)
      → IsJoining ranks views first second bridge all → IsMakingOrder (whole (length (first ++ second))).places all order
      → Derives ranks views (intercomm (members_at (first ++ second) all (whole (length (first ++ second))).places) (length second) order)
  -- a duplicate of an intercommunicator, by the k-th calls of all its members
  copied : (members : List Member) (remote_size : ℕ) (was order : Order) (k : ℕ) (function : MadeBy)
      → Derives ranks views (intercomm members remote_size was)
      → IsOneMaking function (kth_calls ranks views k members) → is_copy function ≡ true
      → AreGiven (gives_later function) (kth_calls ranks views k members) (whole (length members) ∷ [])
      → IsMakingOrder (whole (length members)).places (kth_calls ranks views k members) order
      → Derives ranks views (intercomm (members_at members (kth_calls ranks views k members) (whole (length members)).places) remote_size order)
  -- the two groups of an intercommunicator are merged
  merged : (members : List Member) (remote_size : ℕ) (was order : Order) (all : List (Option Here)) (part : Selection)
      → Derives ranks views (intercomm members remote_size was)
      → IsMerge ranks views members (first_size members remote_size) all part → IsMakingOrder part.places all order
      → Derives ranks views (communicator (members_at members all part.places) part.dims order)
  -- the group of an intercommunicator in which a member is, and the other one
  of_side : (members : List Member) (remote_size : ℕ) (order : Order) (rank at handle : ℕ) (call : GroupCall)
      → Derives ranks views (intercomm members remote_size order) → (place : ℕ) → slice_get members place ≡ Some (member_with handle rank)
      → group_call_at ranks rank at ≡ Some call → is_of_comm call → comm_meant views rank at ≡ Some handle
      → Derives ranks views (ranks_of rank (groups.Given at) (side (nat_le (first_size members remote_size) place) (first_size members remote_size) (ranks_in members)))
  of_remote : (members : List Member) (remote_size : ℕ) (order : Order) (rank at handle : ℕ) (call : GroupCall)
      → Derives ranks views (intercomm members remote_size order) → (place : ℕ) → slice_get members place ≡ Some (member_with handle rank)
      → group_call_at ranks rank at ≡ Some call → is_of_remote call → comm_meant views rank at ≡ Some handle
      → Derives ranks views (ranks_of rank (groups.Given at) (side (not (nat_le (first_size members remote_size) place)) (first_size members remote_size) (ranks_in members)))
  of_two : (rank at : ℕ) (call : GroupCall) (first second : GroupAt) (ones others made : List ℕ)
      → group_call_at ranks rank at ≡ Some call → first_meant views rank at ≡ Some first → second_meant views rank at ≡ Some second
      → Derives ranks views (ranks_of rank first ones) → Derives ranks views (ranks_of rank second others) → made_of_two call ones others ≡ Some made
      → Derives ranks views (ranks_of rank (groups.Given at) made)
