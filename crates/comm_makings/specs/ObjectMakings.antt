-- The windows and files that the members of communicators make: the k-th calls of all members on one communicator are
-- one making (MPI 4.0, 12.2 and 14.2.1: collective over it, so in one order).
use Rattle.std.specs.Prelude.{◌≡◌, ◌≤◌, ◌++◌, ℕ, List, Option, Some, None, All, true, cond, length, map, nat_lt, unwrap_or}
use Rattle.std.specs.List.{flat_map, slice_get}
use Rattle.std.specs.Option.{option_and_then, option_map}
use Rattle.mpi_model.specs.declared.object.Object.{Object}
use Rattle.mpi_model.specs.declared.object.Object.TheVariants as objects
use Rattle.comm_makings.specs.Each.{list_in}
use Rattle.comm_makings.specs.Here.{call_at}
use Rattle.comm_makings.specs.declared.calls.Action.{Action}
use Rattle.comm_makings.specs.declared.calls.Action.TheVariants as actions
use Rattle.comm_makings.specs.declared.calls.CommCall.{CommCall}
use Rattle.comm_makings.specs.declared.calls.ObjectMaker.{ObjectMaker}
use Rattle.comm_makings.specs.declared.calls.RankCalls.{RankCalls}
use Rattle.comm_makings.specs.declared.object_view.ObjectView.{ObjectView}
use Rattle.comm_makings.specs.declared.objects.ObjectHere.{ObjectHere}
use Rattle.comm_makings.specs.declared.state.Made.{Made}
use Rattle.comm_makings.specs.declared.state.Member.{Member}
use Rattle.comm_makings.specs.declared.view.RankView.{RankView}

-- what a rank called on windows, or on files
abbrev pub view_by : RankView → Object → ObjectView
view_by view objects.Communicator = view.windows
view_by view objects.Window = view.windows
view_by view objects.File = view.files

-- the place of the k-th call on a handle of a communicator that makes an object of this sort
abbrev pub kth_on : Object → ℕ → RankView → ℕ → Option ℕ
kth_on object k view handle = option_and_then (λ list. slice_get list.items k) (slice_get (view_by view object).makings.items handle)

-- the place of a member's k-th call on the communicator that makes an object of this sort
abbrev pub kth_making : List RankView → Object → ℕ → Member → Option ℕ
kth_making views object k member = option_and_then (λ view. option_and_then (kth_on object k view) member.handle) (slice_get views member.rank)

-- how many calls on a handle of a communicator make objects of this sort
abbrev pub count_on : Object → RankView → ℕ → Option ℕ
count_on object view handle = option_map (λ list. length list.items) (slice_get (view_by view object).makings.items handle)

-- how many calls of a member on the communicator make objects of this sort, where its text has the communicator
abbrev pub count_in : List RankView → Object → Member → Option ℕ
count_in views object member = option_and_then (λ view. option_and_then (count_on object view) member.handle) (slice_get views member.rank)

-- the same, or none
abbrev pub makings_count : List RankView → Object → Member → ℕ
makings_count views object member = unwrap_or (count_in views object member) 0

-- No member has more calls that make objects of this sort of the communicator.
abbrev pub IsMost : List RankView → Object → List Member → ℕ → Type 0
IsMost views object members most = All (λ member. makings_count views object member ≤ most) members

-- the function by which an action makes an object
abbrev pub maker_of : Action → Option ObjectMaker
maker_of (actions.MakeObject maker parent given) = Some maker
maker_of _ = None

-- the handle that the call of a rank at a place gives, where it gives one
abbrev pub given_at : List RankView → Object → ℕ → ℕ → Option ℕ
given_at views object rank at = option_and_then (λ handle. handle) (option_and_then (λ view. slice_get (view_by view object).given.items at) (slice_get views rank))

-- such a call of a rank
abbrev pub here_by : List RankView → Object → ℕ → ℕ → CommCall → Option ObjectHere
here_by views object rank at call = option_and_then (λ maker. Some (record { rank = rank; call = call.call; returned = call.returned; maker = maker; handle = given_at views object rank at })) (maker_of call.action)

-- the same of the call at a place
abbrev pub here_on : List RankCalls → List RankView → Object → ℕ → ℕ → Option ObjectHere
here_on ranks views object rank at = option_and_then (here_by views object rank at) (call_at ranks rank at)

-- a member's k-th call on the communicator that makes an object of this sort
abbrev pub object_here : List RankCalls → List RankView → Object → ℕ → Member → Option ObjectHere
object_here ranks views object k member = option_and_then (here_on ranks views object member.rank) (kth_making views object k member)

-- the call, where there is one, is of this function
abbrev pub HasMaker : ObjectMaker → Option ObjectHere → Type 0
HasMaker maker None = Unit {0}
HasMaker maker (Some here) = here.maker ≡ maker

-- the handle that a call gives, where there is a call and it gives one
abbrev pub handle_here : Option ObjectHere → Option ℕ
handle_here None = None
handle_here (Some here) = here.handle

-- a member of what is made: it names it by what its call gives, and by no number where it gives none
abbrev pub member_of : Member → Option ObjectHere → Member
member_of member here = record { rank = member.rank; handle = handle_here here }

-- a member of what the k-th calls make
abbrev pub made_member : List RankCalls → List RankView → Object → ℕ → Member → Member
made_member ranks views object k member = member_of member (object_here ranks views object k member)

-- This call returned, and is that of the smallest of the members whose calls did.
pub record IsSmallest (all : List (Option ObjectHere)) (first : ObjectHere) : Type 0 where
  pub at : ℕ
  pub here : slice_get all at ≡ Some (Some first)
  pub back : first.returned ≡ true
  pub least : (other : ℕ) (there : ObjectHere) → slice_get all other ≡ Some (Some there) → there.returned ≡ true → first.rank ≤ there.rank

-- the same, where some call returned
abbrev pub IsFirstHere : List (Option ObjectHere) → Option ObjectHere → Type 0
IsFirstHere all None = (at : ℕ) (here : ObjectHere) → slice_get all at ≡ Some (Some here) → here.returned ≡ true → ⊥
IsFirstHere all (Some first) = IsSmallest all first

-- a call, where it returned
abbrev pub returned_here : Option ObjectHere → Option ObjectHere
returned_here None = None
returned_here (Some here) = cond here.returned (Some here) None

-- of two calls the one of the smaller rank, where both are there
abbrev pub smaller_here : Option ObjectHere → Option ObjectHere → Option ObjectHere
smaller_here None here = here
smaller_here (Some one) None = Some one
smaller_here (Some one) (Some other) = cond (nat_lt other.rank one.rank) (Some other) (Some one)

-- These calls of the members are one making: some member's returned, and all that have it call one function.
pub record IsOneMaking (all : List (Option ObjectHere)) (first : ObjectHere) : Type 0 where
  pub smallest : IsSmallest all first
  pub alike : All (HasMaker first.maker) all

-- the same, where they are
abbrev pub IsOneMakingOf : List (Option ObjectHere) → Option ObjectHere → Type 0
IsOneMakingOf all None = (first : ObjectHere) → IsOneMaking all first → ⊥
IsOneMakingOf all (Some first) = IsOneMaking all first

-- The members' k-th calls are one making.
abbrev pub IsMaking : List RankCalls → List RankView → Object → Made → ℕ → ObjectHere → Type 0
IsMaking ranks views object comm k first = IsOneMaking (map (object_here ranks views object k) comm.members.items) first

-- The k-th object of this sort of a communicator: of all its members, in its order. It is ordered by the call of its
-- smallest member whose text has it.
pub record IsMadeOf (ranks : List RankCalls) (views : List RankView) (object : Object) (comm : Made) (k : ℕ) (made : Made) : Type 0 where
  pub first : ObjectHere
  pub making : IsMaking ranks views object comm k first
  pub sort : made.object ≡ object
  pub members : made.members.items ≡ map (made_member ranks views object k) comm.members.items
  pub same_ranks : made.ranks.items ≡ comm.ranks.items
  pub no_dims : list_in made.dims ≡ None
  pub one_group : made.remote_size ≡ 0
  pub order : made.order ≡ record { class = 2; call = first.call; rank = first.rank }

-- the k-th object, where the members' calls are one making
abbrev pub IsObject : List RankCalls → List RankView → Object → Made → ℕ → Option Made → Type 0
IsObject ranks views object comm k None = (first : ObjectHere) → IsMaking ranks views object comm k first → ⊥
IsObject ranks views object comm k (Some made) = IsMadeOf ranks views object comm k made

-- The objects of this sort of a communicator, in the order of their makings: up to the first in which its members
-- differ, or that none has.
pub record AreObjectsOf (ranks : List RankCalls) (views : List RankView) (object : Object) (comm : Made) (listed : List Made) : Type 0 where
  pub each : (k : ℕ) (made : Made) → slice_get listed k ≡ Some made → IsMadeOf ranks views object comm k made
  pub end : (first : ObjectHere) → IsMaking ranks views object comm (length listed) first → ⊥

-- Those of all of these communicators, one communicator after the other.
pub record AreObjectsOfAll (ranks : List RankCalls) (views : List RankView) (object : Object) (comms listed : List Made) : Type 0 where
  pub lists : List (List Made)
  pub one_each : length lists ≡ length comms
  pub each : (at : ℕ) (comm : Made) (list : List Made) → slice_get comms at ≡ Some comm → slice_get lists at ≡ Some list → AreObjectsOf ranks views object comm list
  pub all : listed ≡ flat_map (λ list. list) lists

-- The windows and files that the members of these communicators make: the windows of all, and then the files.
pub record AreObjects (ranks : List RankCalls) (views : List RankView) (comms listed : List Made) : Type 0 where
  pub windows : List Made
  pub files : List Made
  pub all_windows : AreObjectsOfAll ranks views objects.Window comms windows
  pub all_files : AreObjectsOfAll ranks views objects.File comms files
  pub both : listed ≡ windows ++ files
