-- By which numbers, over which calls, the members of a communicator, a window or a file name it in a layout.
use Rattle.std.specs.Prelude.{◌≡◌, ◌⊎◌, ◌<◌, ◌&&◌, ℕ, Bool, true, false, List, [], ◌∷◌, Option, Some, None, All, cond, length, map, nat_lt}
use Rattle.std.specs.List.{filter_map, list_any, range_with_len, slice_get}
use Rattle.std.specs.List.Sorted.{IsPermutation, IsSorted}
use Rattle.std.specs.Option.{option_and_then, option_map}
use Rattle.std.specs.Ordering.{nat_cmp, ordering_then}
use Rattle.std.specs.declared.cmp.Ordering.{Ordering}
use Rattle.mpi_model.specs.Communicators.{Communicator}
use Rattle.mpi_model.specs.declared.layout.comm.Stretch.{Stretch}
use Rattle.mpi_model.specs.declared.object.Object.{Object}
use Rattle.mpi_model.specs.declared.object.Object.TheVariants as objects
use Rattle.comm_makings.specs.Names.{always}
use Rattle.comm_makings.specs.Uses.{count_for, uses_by}
use Rattle.comm_makings.specs.declared.answer.Choice.{Choice}
use Rattle.comm_makings.specs.declared.state.Made.{Made}
use Rattle.comm_makings.specs.declared.state.Member.{Member}
use Rattle.comm_makings.specs.declared.state.Order.{Order}
use Rattle.comm_makings.specs.declared.uses.AllUses.{AllUses}
use Rattle.comm_makings.specs.declared.uses.HandleUses.{HandleUses}
use Rattle.comm_makings.specs.declared.view.RankView.{RankView}
use Rattle.comm_makings.specs.declared.written.Named.{Named}

-- the handles of a rank that name objects of one sort
abbrev pub handles_by : RankView → Object → List Stretch
handles_by view objects.Communicator = view.handles.items
handles_by view objects.Window = view.windows.handles.items
handles_by view objects.File = view.files.handles.items

-- a handle of a rank
abbrev pub handle_at : List RankView → Object → ℕ → ℕ → Option Stretch
handle_at views object rank handle = option_and_then (λ v. slice_get (handles_by v object) handle) (slice_get views rank)

-- a flag, which counts as not set where it is missing
abbrev pub or_false : Option Bool → Bool
or_false None = false
or_false (Some b) = b

-- its number names nothing else of the rank
abbrev pub is_only : List HandleUses → ℕ → ℕ → Bool
is_only uses rank handle = or_false (option_and_then (λ u. slice_get u.only.items handle) (slice_get uses rank))

-- a number over all calls where it names nothing else, and else over the handle's stretch
abbrev pub stretch_of : Bool → Stretch → Stretch
stretch_of only stretch = cond only (always stretch.number) stretch

-- by which number, over which calls, a rank names the object of a handle
abbrev pub entry_by : List RankView → List HandleUses → Object → ℕ → ℕ → Option Stretch
entry_by views uses object rank handle = option_map (stretch_of (is_only uses rank handle)) (handle_at views object rank handle)

-- A member names an object by its handle's number: in all calls where the number names nothing else of its sort, and
-- else over the handle's stretch.
abbrev pub entry_of : List RankView → List HandleUses → Object → Member → Option Stretch
entry_of views uses object member = option_and_then (entry_by views uses object member.rank) member.handle

-- the number of a handle, where it names nothing else
abbrev pub number_of : Bool → Stretch → Option ℕ
number_of only stretch = cond only (Some stretch.number) None

-- the number by which a rank names the communicator of a handle, where it names nothing else
abbrev pub only_by : List RankView → List HandleUses → ℕ → ℕ → Option ℕ
only_by views uses rank handle = option_and_then (number_of (is_only uses rank handle)) (handle_at views objects.Communicator rank handle)

-- the number by which a member names the communicator, where it names nothing else
abbrev pub only_number : List RankView → List HandleUses → Member → Option ℕ
only_number views uses member = option_and_then (only_by views uses member.rank) member.handle

-- The member names the communicator by this number, which names nothing else.
abbrev pub IsNamedOnly : List RankView → List HandleUses → ℕ → Member → Type 0
IsNamedOnly views uses number member = only_number views uses member ≡ Some number

-- it is the sort of communicators
abbrev pub is_comm : Object → Bool
is_comm objects.Communicator = true
is_comm objects.Window = false
is_comm objects.File = false

-- a communicator that each member names by this number, which names nothing else
pub record HasNumber (views : List RankView) (uses : List HandleUses) (made : Made) (number : ℕ) : Type 0 where
  pub sort : is_comm made.object ≡ true
  pub all : All (IsNamedOnly views uses number) made.members.items

-- A communicator by its id, where each member names it by that number and names nothing else so; or by an entry for
-- each member, as windows and files always.
abbrev pub IsNamedIn : List RankView → AllUses → Made → Communicator → Type 0
IsNamedIn views uses made comm = ((comm.numbers ≡ []) × HasNumber views uses.comms.items made comm.comm) ⊎ (comm.numbers ≡ map (entry_of views (uses_by uses made.object) made.object) made.members.items)

-- What a layout has of a derived communicator, window or file has its sort, and its ranks in their order; of an
-- intercommunicator also the size of the second group.
pub record IsWrittenOf (views : List RankView) (uses : AllUses) (made : Made) (comm : Communicator) : Type 0 where
  pub sort : comm.object ≡ made.object
  pub members : comm.members ≡ made.ranks.items
  pub groups : comm.remote_size ≡ made.remote_size
  pub named : IsNamedIn views uses made comm

-- the world in a layout of so many ranks
pub record IsWorld (world count : ℕ) (comm : Communicator) : Type 0 where
  pub id : comm.comm ≡ world
  pub sort : comm.object ≡ objects.Communicator
  pub members : comm.members ≡ range_with_len 0 count
  pub groups : comm.remote_size ≡ 0
  pub numbers : comm.numbers ≡ []

-- a call names it, or one that doesn't end it, as is chosen
abbrev pub is_named : Choice → AllUses → Made → Bool
is_named choice uses made = list_any (λ m. nat_lt 0 (count_for choice (uses_by uses made.object) m.rank m.handle)) made.members.items

-- a communicator, a window or a file with its order, where it isn't the world and is named so
abbrev pub named_with : Choice → AllUses → ℕ → Made → Option Named
named_with choice uses place made = cond (nat_lt 0 made.order.class && is_named choice uses made) (Some (record { order = made.order; place = place })) None

-- the same of the one at this place
abbrev pub named_at : Choice → AllUses → List Made → ℕ → Option Named
named_at choice uses made place = option_and_then (named_with choice uses place) (slice_get made place)

-- In a layout MPI_COMM_SELF comes before others, by rank, and the others by the making call of their smallest member
-- whose text has it, and then by that member.
abbrev pub order_cmp : Order → Order → Ordering
order_cmp x y = ordering_then (nat_cmp x.class y.class) (ordering_then (nat_cmp x.call y.call) (nat_cmp x.rank y.rank))

-- the same, and then as they were derived
abbrev pub named_cmp : Named → Named → Ordering
named_cmp x y = ordering_then (order_cmp x.order y.order) (nat_cmp x.place y.place)

-- All that is derived but the world and that a call names, or one that doesn't end it, in the order of a layout.
pub record AreChosen (choice : Choice) (uses : AllUses) (made : List Made) (chosen : List Named) : Type 0 where
  pub same : IsPermutation (filter_map (named_at choice uses made) (range_with_len 0 (length made))) chosen
  pub sorted : IsSorted named_cmp chosen

-- These communicators of a layout are the chosen ones, in their order.
pub record AreWrittenOf (views : List RankView) (uses : AllUses) (made : List Made) (chosen : List Named) (comms : List Communicator) : Type 0 where
  pub same : length comms ≡ length chosen
  pub each : (i : ℕ) (named : Named) (one : Made) (comm : Communicator) → slice_get chosen i ≡ Some named → slice_get made named.place ≡ Some one
      → slice_get comms i ≡ Some comm → IsWrittenOf views uses one comm

-- Each of these stands at its place.
pub record AreIn (made : List Made) (chosen : List Named) : Type 0 where
  pub each : (i : ℕ) (named : Named) → slice_get chosen i ≡ Some named → named.place < length made

-- These communicators of a layout are those that are chosen.
pub record AreOthers (choice : Choice) (views : List RankView) (uses : AllUses) (made : List Made) (comms : List Communicator) : Type 0 where
  pub chosen : List Named
  pub are_chosen : AreChosen choice uses made chosen
  pub written : AreWrittenOf views uses made chosen comms

-- The world comes first, and then the communicators, windows and files that calls name, as is chosen.
pub record IsWritten (choice : Choice) (world count : ℕ) (views : List RankView) (uses : AllUses) (made : List Made) (comms : List Communicator) : Type 0 where
  pub first : Communicator
  pub others : List Communicator
  pub starts : comms ≡ first ∷ others
  pub is_world : IsWorld world count first
  pub rest : AreOthers choice views uses made others
