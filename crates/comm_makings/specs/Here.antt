-- One making, as each member of its parent calls it (MPI 4.0, 7.4: collective over the parent, so in one order).
use Rattle.std.specs.Prelude.{◌≡◌, ℕ, Bool, true, false, List, [], ◌∷◌, Option, Some, None}
use Rattle.std.specs.List.{slice_get}
use Rattle.std.specs.Option.{option_and_then}
use Rattle.comm_makings.specs.declared.answer.MadeBy.{MadeBy}
use Rattle.comm_makings.specs.declared.answer.MadeBy.TheVariants as functions
use Rattle.comm_makings.specs.declared.calls.Action.{Action}
use Rattle.comm_makings.specs.declared.calls.Action.TheVariants as actions
use Rattle.comm_makings.specs.declared.calls.CommCall.{CommCall}
use Rattle.comm_makings.specs.declared.calls.Making.{Making}
use Rattle.comm_makings.specs.declared.calls.Making.TheVariants as makings
use Rattle.comm_makings.specs.declared.calls.RankCalls.{RankCalls}
use Rattle.comm_makings.specs.declared.handle.Gives.{Gives}
use Rattle.comm_makings.specs.declared.handle.Gives.TheVariants as gives
use Rattle.comm_makings.specs.declared.handle.Meant.{Meant}
use Rattle.comm_makings.specs.declared.here.Here.{Here}
use Rattle.comm_makings.specs.declared.state.Member.{Member}
use Rattle.comm_makings.specs.declared.view.RankView.{RankView}

-- the function of a making
abbrev pub function_of : Making → MadeBy
function_of makings.Dup = functions.Dup
function_of makings.DupWithInfo = functions.DupWithInfo
function_of makings.Idup = functions.Idup
function_of makings.IdupWithInfo = functions.IdupWithInfo
function_of (makings.Split color key) = functions.Split
function_of (makings.Create group) = functions.Create
function_of (makings.CreateGroup group tag) = functions.CreateGroup
function_of (makings.CartCreate dims reorder) = functions.CartCreate
function_of (makings.CartSub remain) = functions.CartSub
function_of (makings.GraphCreate nodes reorder) = functions.GraphCreate
function_of (makings.DistGraphCreate reorder) = functions.DistGraphCreate
function_of (makings.DistGraphCreateAdjacent reorder) = functions.DistGraphCreateAdjacent

-- a call of a rank, by its place in the rank's list
abbrev pub call_at : List RankCalls → ℕ → ℕ → Option CommCall
call_at ranks rank at = option_and_then (λ c. slice_get c.calls.items at) (slice_get ranks rank)

-- what an action says of the communicators that it makes
abbrev pub making_of : Action → Option Making
making_of (actions.Make parent making given) = Some making
making_of _ = None

-- what a call of a rank makes
abbrev pub making_at : List RankCalls → ℕ → ℕ → Option Making
making_at ranks rank at = option_and_then (λ c. making_of c.action) (call_at ranks rank at)

-- what the numbers in a call of a rank mean
abbrev pub meant_at : List RankView → ℕ → ℕ → Option Meant
meant_at views rank at = option_and_then (λ v. slice_get v.meant.items at) (slice_get views rank)

-- the call of a rank at this place of its list, by what it makes and what its numbers mean
abbrev pub here_of : ℕ → ℕ → CommCall → Making → Meant → Here
here_of rank at call making meant = record { rank = rank; at = at; call = call.call; function = function_of making; gives = meant.gives; group = meant.group }

-- the same, where the call makes communicators
abbrev pub here_by : List RankView → ℕ → ℕ → CommCall → Option Here
here_by views rank at call = option_and_then (λ making. option_and_then (λ meant. Some (here_of rank at call making meant)) (meant_at views rank at)) (making_of call.action)

-- the call of a rank that makes communicators, at this place of its list
abbrev pub here_at : List RankCalls → List RankView → ℕ → ℕ → Option Here
here_at ranks views rank at = option_and_then (here_by views rank at) (call_at ranks rank at)

-- the place of the k-th call of a rank that makes communicators of the handle by all its members
abbrev pub kth_of : List RankView → ℕ → ℕ → ℕ → Option ℕ
kth_of views k rank handle = option_and_then (λ v. option_and_then (λ calls. slice_get calls.items k) (slice_get v.makings.items handle)) (slice_get views rank)

-- the place of the k-th call of a member that makes communicators of the handle by all its members
abbrev pub kth_call : List RankView → ℕ → Member → Option ℕ
kth_call views k member = option_and_then (kth_of views k member.rank) member.handle

-- that call
abbrev pub kth_at : List RankCalls → List RankView → ℕ → Member → Option Here
kth_at ranks views k member = option_and_then (here_at ranks views member.rank) (kth_call views k member)

-- the first call that is there
abbrev pub first_of : List (Option Here) → Option Here
first_of [] = None
first_of (None ∷ all) = first_of all
first_of (Some here ∷ all) = Some here

-- the call has this function, where it is there
abbrev pub HasFunction : MadeBy → Option Here → Type 0
HasFunction function None = Unit {0}
HasFunction function (Some here) = here.function ≡ function

-- the function may give its communicator when the call is completed
abbrev pub gives_later : MadeBy → Bool
gives_later functions.Idup = true
gives_later functions.IdupWithInfo = true
gives_later _ = false

-- What is given can't be read, or no call can be known to mean it.
abbrev pub is_unreadable : Gives → Bool
is_unreadable gives.Unknown = true
is_unreadable (gives.Taken handle) = true
is_unreadable _ = false

-- the call gives what can't be read
abbrev pub gives_unknown : Option Here → Bool
gives_unknown None = false
gives_unknown (Some here) = is_unreadable here.gives

-- The call returned.
abbrev pub gives_some : Gives → Bool
gives_some gives.Nothing = false
gives_some _ = true

-- the handle that is given, where calls can be known to mean it
abbrev pub handle_given : Gives → Option ℕ
handle_given (gives.Handle handle) = Some handle
handle_given _ = None

-- the handle that the call of a member gives
abbrev pub handle_of : Option Here → Option ℕ
handle_of None = None
handle_of (Some here) = handle_given here.gives
