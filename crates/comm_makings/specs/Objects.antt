-- Windows and files (MPI 4.0, 12.2 and 14.2). They are made by collective calls on a communicator, of all its members
-- in its order, and each of the two sorts has numbers and an order of makings of its own.
use Rattle.std.specs.Prelude.{◌≡◌, ℕ, ◌+◌, ◌==◌, ◌||◌, Bool, true, false, List, [], ◌∷◌, Option, Some, None, cond, count_by, is_some, length, take}
use Rattle.std.specs.List.{filter_map, slice_get}
use Rattle.std.specs.Option.{option_and_then, option_map}
use Rattle.mpi_model.specs.Kinds.{object_number}
use Rattle.mpi_model.specs.declared.layout.comm.Stretch.{Stretch}
use Rattle.mpi_model.specs.declared.object.Object.{Object}
use Rattle.mpi_model.specs.declared.object.Object.TheVariants as objects
use Rattle.comm_makings.specs.Each.{EachIs, ListsAre}
use Rattle.comm_makings.specs.Names.{next_call}
use Rattle.comm_makings.specs.declared.calls.Action.{Action}
use Rattle.comm_makings.specs.declared.calls.Action.TheVariants as actions
use Rattle.comm_makings.specs.declared.calls.CommCall.{CommCall}
use Rattle.comm_makings.specs.declared.calls.ObjectMaker.{ObjectMaker}
use Rattle.comm_makings.specs.declared.calls.ObjectMaker.TheVariants as object_makers
use Rattle.comm_makings.specs.declared.calls.Uses.{Uses}
use Rattle.comm_makings.specs.declared.handle.Meant.{Meant}
use Rattle.comm_makings.specs.declared.object_view.ObjectView.{ObjectView}

-- the sort of what a function makes
abbrev pub object_made : ObjectMaker → Object
object_made object_makers.WinCreate = objects.Window
object_made object_makers.WinAllocate = objects.Window
object_made object_makers.WinAllocateShared = objects.Window
object_made object_makers.WinCreateDynamic = objects.Window
object_made object_makers.FileOpen = objects.File

-- two sorts are the same
abbrev pub same_sort : Object → Object → Bool
same_sort sort object = object_number sort == object_number object

-- the function makes objects of this sort
abbrev pub makes : Object → ObjectMaker → Bool
makes object maker = same_sort (object_made maker) object

-- the action makes objects of this sort
abbrev pub makes_such : Object → Action → Bool
makes_such object (actions.MakeObject maker parent given) = makes object maker
makes_such object _ = false

-- the number that an action gives to an object of this sort, once its call has returned
abbrev pub given_by_action : Object → Bool → Action → Option ℕ
given_by_action object true (actions.MakeObject maker parent given) = cond (makes object maker) given None
given_by_action object _ _ = None

-- the number that a call gives to an object of this sort
abbrev pub number_given : Object → CommCall → Option ℕ
number_given object call = given_by_action object call.returned call.action

-- the number of the object of this sort that an action ends
abbrev pub ended_by_action : Object → Action → Option ℕ
ended_by_action object (actions.EndObject sort number) = cond (same_sort sort object) number None
ended_by_action object _ = None

-- the number of the object of this sort that a call ends
abbrev pub number_ended : Object → CommCall → Option ℕ
number_ended object call = ended_by_action object call.action

-- the number is there, and is this one
abbrev pub is_number : ℕ → Option ℕ → Bool
is_number number None = false
is_number number (Some other) = other == number

-- behind the call the number means something else, or nothing: the call gives or ends it
abbrev pub changes : Object → ℕ → CommCall → Bool
changes object number call = is_number number (number_given object call) || is_number number (number_ended object call)

-- The end of a number's stretch that begins before these calls: one above the first that gives or ends it, which still
-- names it.
abbrev pub end_in : Object → ℕ → List CommCall → Option ℕ
end_in object number [] = None
end_in object number (call ∷ calls) = cond (changes object number call) (Some (next_call call.call)) (end_in object number calls)

-- a number that a call gives, over the calls behind it up to its end
abbrev pub handle_from : Object → CommCall → List CommCall → ℕ → Stretch
handle_from object call behind number = record { number = number; first = next_call call.call; end = end_in object number behind }

-- the same before other handles, where the call gives one
abbrev pub handle_before : Object → CommCall → List CommCall → Option ℕ → List Stretch → List Stretch
handle_before object call behind None others = others
handle_before object call behind (Some number) others = handle_from object call behind number ∷ others

-- the handles of this sort of a rank, in the order of the calls that give them
abbrev pub object_handles : Object → List CommCall → List Stretch
object_handles object [] = []
object_handles object (call ∷ calls) = handle_before object call calls (number_given object call) (object_handles object calls)

-- how many handles the calls before a place give
abbrev pub given_before : Object → List CommCall → ℕ → ℕ
given_before object calls at = count_by (λ call. is_some (number_given object call)) (take at calls)

-- the handle that the call at a place gives, by its place among the handles
abbrev pub handle_given : Object → List CommCall → ℕ → Option ℕ
handle_given object calls at = option_map (λ number. given_before object calls at) (option_and_then (number_given object) (slice_get calls at))

-- A call counts where it makes such objects of the handle of a communicator; from the first on whose parent is unknown
-- none does.
abbrev pub object_making_before : Bool → ℕ → ℕ → Option ℕ → List ℕ → List ℕ
object_making_before false handle at parent others = others
object_making_before true handle at None others = []
object_making_before true handle at (Some parent) others = cond (parent == handle) (at ∷ others) others

-- The calls that make objects of this sort of a communicator's handle, the first of which stands at this place.
abbrev pub object_makings_on : Object → ℕ → ℕ → List CommCall → List Meant → List ℕ
object_makings_on object handle at [] meant = []
object_makings_on object handle at (call ∷ calls) [] = []
object_makings_on object handle at (call ∷ calls) (here ∷ meant) =
    object_making_before (makes_such object call.action) handle at here.comm (object_makings_on object handle (at + 1) calls meant)

-- The objects of one sort of a rank: their handles, which call gives which, and which calls make them of which of so
-- many handles of communicators.
pub record IsObjectView (object : Object) (calls : List CommCall) (meant : List Meant) (count : ℕ) (view : ObjectView) : Type 0 where
  pub handles : view.handles.items ≡ object_handles object calls
  pub given : EachIs view.given.items (handle_given object calls)
  pub given_each : length view.given.items ≡ length calls
  pub makings : ListsAre view.makings.items (λ handle. object_makings_on object handle 0 calls meant)
  pub makings_each : length view.makings.items ≡ count

-- the call that ends a number, as a use of it
abbrev pub end_use : ℕ → ℕ → Uses
end_use call number = record { number = number; first = call; last = call; count = 1 }

-- The calls that end objects of this sort: each still names what it ends.
abbrev pub end_uses : Object → List CommCall → List Uses
end_uses object calls = filter_map (λ call. option_map (end_use call.call) (number_ended object call)) calls
