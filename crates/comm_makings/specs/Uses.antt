-- Which calls of the profile name which handles of a rank. A number names the communicator that it was given to last,
-- and none once that is freed (MPI 4.0, 7.4.3).
use Rattle.std.specs.Prelude.{◌≡◌, ◌↔◌, ◌⊎◌, ◌<◌, ◌≤◌, ◌==◌, ◌&&◌, ◌||◌, ◌+◌, ◌-◌, ◌^◌, ℕ, Bool, true, false, List, [], ◌∷◌, ◌++◌, Option, Some, None, All, IsTrue, cond, count_by, is_some, length, map, min, not, unwrap_or, nat_le, nat_lt, slice_index_or}
use Rattle.std.specs.List.{filter, filter_map, list_any, range_with_len, slice_get, sum_by}
use Rattle.std.specs.Option.{option_and_then, option_map}
use Rattle.mpi_model.specs.Names.{holds}
use Rattle.mpi_model.specs.declared.layout.comm.Stretch.{Stretch}
use Rattle.mpi_model.specs.declared.object.Object.{Object}
use Rattle.mpi_model.specs.declared.object.Object.TheVariants as objects
use Rattle.comm_makings.specs.Each.{EachIs}
use Rattle.comm_makings.specs.Names.{next_call}
use Rattle.comm_makings.specs.Objects.{end_uses}
use Rattle.comm_makings.specs.declared.answer.Choice.{Choice}
use Rattle.comm_makings.specs.declared.answer.Choice.TheVariants as choices
use Rattle.comm_makings.specs.declared.calls.Action.{Action}
use Rattle.comm_makings.specs.declared.calls.Action.TheVariants as actions
use Rattle.comm_makings.specs.declared.calls.CommCall.{CommCall}
use Rattle.comm_makings.specs.declared.calls.Making.TheVariants as makings
use Rattle.comm_makings.specs.declared.calls.RankCalls.{RankCalls}
use Rattle.comm_makings.specs.declared.calls.Uses.{Uses}
use Rattle.comm_makings.specs.declared.handle.Meant.{Meant}
use Rattle.comm_makings.specs.declared.uses.AllUses.{AllUses}
use Rattle.comm_makings.specs.declared.uses.HandleUses.{HandleUses}
use Rattle.comm_makings.specs.declared.uses.HeldUses.{HeldUses}
use Rattle.comm_makings.specs.declared.uses.Place.{Place}
use Rattle.comm_makings.specs.declared.view.RankView.{RankView}

-- A handle at a place begins later than another, or with it and stands behind it or in its place.
abbrev pub IsNotBefore : ℕ → Stretch → ℕ → Stretch → Type 0
IsNotBefore at handle other earlier = (earlier.first < handle.first) ⊎ ((earlier.first ≡ handle.first) × (other ≤ at))

-- Of the handles of a number that begin at a call or before it, this one begins last.
pub record IsLatest (handles : List Stretch) (number call at : ℕ) : Type 0 where
  pub handle : Stretch
  pub here : slice_get handles at ≡ Some handle
  pub same : handle.number ≡ number
  pub begun : handle.first ≤ call
  pub last : (other : ℕ) (earlier : Stretch) → slice_get handles other ≡ Some earlier → earlier.number ≡ number → earlier.first ≤ call
      → IsNotBefore at handle other earlier

-- no handle of the number begins at the call or before it
pub record NoneBegun (handles : List Stretch) (number call : ℕ) : Type 0 where
  pub none : (at : ℕ) (handle : Stretch) → slice_get handles at ≡ Some handle → handle.number ≡ number → handle.first ≤ call → ⊥

-- the last handle of a number that begins at a call or before it, if any
abbrev pub IsLatestOf : List Stretch → ℕ → ℕ → Option ℕ → Type 0
IsLatestOf handles number call None = NoneBegun handles number call
IsLatestOf handles number call (Some at) = IsLatest handles number call at

-- the handle holds all calls of a group
abbrev pub holds_all : Uses → Stretch → Bool
holds_all uses handle = holds handle uses.first && holds handle uses.last

-- The calls of a group name this handle: it is the last one that their number was given to, and holds them.
pub record IsHolder (handles : List Stretch) (uses : Uses) (at : ℕ) : Type 0 where
  pub latest : IsLatest handles uses.number uses.first at
  pub within : holds_all uses latest.handle ≡ true

-- the handle that the calls of a group name, if any
abbrev pub IsHolderOf : List Stretch → Uses → Option ℕ → Type 0
IsHolderOf handles uses (Some at) = IsHolder handles uses at
IsHolderOf handles uses None = (at : ℕ) → IsHolder handles uses at → ⊥

-- the groups, each with the handle that its calls name
pub record AreHeld (handles : List Stretch) (uses : List Uses) (held : List HeldUses) : Type 0 where
  pub same : map (λ g. g.uses) held ≡ uses
  pub each : All (λ g. IsHolderOf handles g.uses g.holder) held

-- the number of the communicator that a call names of which all members make it: they make other communicators, windows
-- or files of it, or free it (MPI 4.0, 7.4, 11.8 to 11.10, 12.2 and 14.2.1)
abbrev pub number_on : Action → Option ℕ
number_on (actions.Make parent (makings.CreateGroup group tag) given) = None
number_on (actions.Make parent making given) = parent
number_on (actions.Free comm) = comm
number_on (actions.Join local leaders given) = local
number_on (actions.Merge comm high given) = comm
number_on (actions.GivesComm maker comm given) = comm
number_on (actions.MakeObject maker parent given) = parent
number_on _ = None

-- such a call as a use of the handle that it means
abbrev pub use_of : ℕ → Option ℕ → ℕ → HeldUses
use_of call handle number = record { uses = record { number = number; first = call; last = call; count = 1 }; holder = handle }

-- the same, where the call is such
abbrev pub call_use : CommCall → Meant → Option HeldUses
call_use call meant = option_map (use_of call.call meant.comm) (number_on call.action)

-- the same of the call at a place
abbrev pub call_use_at : List CommCall → List Meant → ℕ → Option HeldUses
call_use_at calls meant at = option_and_then (λ call. option_and_then (call_use call) (slice_get meant at)) (slice_get calls at)

-- the uses of handles by the calls on communicators
abbrev pub held_calls : List CommCall → List Meant → List HeldUses
held_calls calls meant = filter_map (call_use_at calls meant) (range_with_len 0 (length calls))

-- the handle is the one at this place
abbrev pub is_at : ℕ → Option ℕ → Bool
is_at at None = false
is_at at (Some holder) = holder == at

-- how many calls of a group name the handle at this place
abbrev pub count_in : ℕ → HeldUses → ℕ
count_in at group = cond (is_at at group.holder) group.uses.count 0

-- how many calls of all groups do, up to the greatest number of calls
abbrev pub count_of : List HeldUses → ℕ → ℕ
count_of held at = min (sum_by (count_in at) held) (2 ^ 64 - 1)

-- a stretch has just this end
abbrev pub ends_at : ℕ → Option ℕ → Bool
ends_at call None = false
ends_at call (Some end) = end == call

-- The last call of a group ends the handle's stretch: it frees or closes what the handle names, or gives the number anew.
abbrev pub ends_with : Uses → Stretch → Bool
ends_with uses handle = ends_at (next_call uses.last) handle.end

-- the calls of a group don't end what they name, where they name the handle
abbrev pub is_use_of : Uses → Option Stretch → Bool
is_use_of uses None = true
is_use_of uses (Some handle) = not (ends_with uses handle)

-- the calls of a group don't end what they name
abbrev pub is_use : List Stretch → HeldUses → Bool
is_use handles group = is_use_of group.uses (option_and_then (slice_get handles) group.holder)

-- the groups but for the calls that end what they name
abbrev pub but_ends : List Stretch → List HeldUses → List HeldUses
but_ends handles held = filter (is_use handles) held

-- the calls of a group have this number and name no handle
abbrev pub is_stray_of : ℕ → HeldUses → Bool
is_stray_of number group = not (is_some group.holder) && (group.uses.number == number)

-- some group is such
abbrev pub is_stray : List HeldUses → ℕ → Bool
is_stray held number = list_any (is_stray_of number) held

-- the handle has this number
abbrev pub has_number : ℕ → Stretch → Bool
has_number number handle = handle.number == number

-- how many handles have the number
abbrev pub numbered : List Stretch → ℕ → ℕ
numbered handles number = count_by (has_number number) handles

-- the handle's number is that of no other, and no calls have it that name no handle
abbrev pub stands_alone : List Stretch → List HeldUses → Stretch → Bool
stands_alone handles held handle = (numbered handles handle.number == 1) && not (is_stray held handle.number)

-- The number of the handle at this place names it alone: no other handle of the rank has the number, all calls of the
-- profile that name it lie in the handle's stretch, and those on communicators mean a handle.
pub record IsOnly (handles : List Stretch) (uses : List Uses) (calls : List HeldUses) (at : ℕ) : Type 0 where
  pub handle : Stretch
  pub here : slice_get handles at ≡ Some handle
  pub alone : (other : ℕ) (twin : Stretch) → slice_get handles other ≡ Some twin → twin.number ≡ handle.number → other ≡ at
  pub within : (i : ℕ) (group : Uses) → slice_get uses i ≡ Some group → group.number ≡ handle.number → holds_all group handle ≡ true
  pub known : (i : ℕ) (group : HeldUses) → slice_get calls i ≡ Some group → group.uses.number ≡ handle.number → is_some group.holder ≡ true

-- What groups of calls say of handles: how many calls name each, how many of these don't end it, and whether its number is that
-- of no other and of no calls that name no handle.
pub record IsTally (handles : List Stretch) (held : List HeldUses) (tally : HandleUses) : Type 0 where
  pub counts : EachIs tally.counts.items (count_of held)
  pub count_each : length tally.counts.items ≡ length handles
  pub used : EachIs tally.used.items (count_of (but_ends handles held))
  pub used_each : length tally.used.items ≡ length handles
  pub only : tally.only.items ≡ map (stands_alone handles held) handles

-- What the calls of the profile, and those on communicators, say of a rank's handles: how many name each, how many of these
-- don't end it, and which numbers name one alone.
pub record IsCounted (handles : List Stretch) (uses : List Uses) (calls : List HeldUses) (counted : HandleUses) : Type 0 where
  pub held : List HeldUses
  pub holders : AreHeld handles uses held
  pub counts : EachIs counted.counts.items (count_of (held ++ calls))
  pub count_each : length counted.counts.items ≡ length handles
  pub used : EachIs counted.used.items (count_of (but_ends handles (held ++ calls)))
  pub used_each : length counted.used.items ≡ length handles
  pub only : (at : ℕ) (is : Bool) → slice_get counted.only.items at ≡ Some is → IsTrue is ↔ IsOnly handles uses calls at
  pub only_each : length counted.only.items ≡ length handles

-- What the calls of a rank say of its objects of one sort: of communicators those of the profile and those on
-- communicators; of windows and files those of the profile, those that end one among them.
abbrev pub IsCountedOf : Object → RankCalls → RankView → HandleUses → Type 0
IsCountedOf objects.Communicator calls view counted = IsCounted view.handles.items calls.uses.items (held_calls calls.calls.items view.meant.items) counted
IsCountedOf objects.Window calls view counted = IsCounted view.windows.handles.items (calls.windows.items ++ end_uses objects.Window calls.calls.items) [] counted
IsCountedOf objects.File calls view counted = IsCounted view.files.handles.items (calls.files.items ++ end_uses objects.File calls.calls.items) [] counted

-- The same of each rank.
pub record AreCounted (object : Object) (ranks : List RankCalls) (views : List RankView) (uses : List HandleUses) : Type 0 where
  pub same : length uses ≡ length ranks
  pub each : (rank : ℕ) (counted : HandleUses) (calls : RankCalls) (view : RankView) → slice_get uses rank ≡ Some counted → slice_get ranks rank ≡ Some calls
      → slice_get views rank ≡ Some view → IsCountedOf object calls view counted

-- The same of objects of each sort.
pub record AreAllCounted (ranks : List RankCalls) (views : List RankView) (uses : AllUses) : Type 0 where
  pub comms : AreCounted objects.Communicator ranks views uses.comms.items
  pub windows : AreCounted objects.Window ranks views uses.windows.items
  pub files : AreCounted objects.File ranks views uses.files.items

-- what they say of those of one sort
abbrev pub uses_by : AllUses → Object → List HandleUses
uses_by uses objects.Communicator = uses.comms.items
uses_by uses objects.Window = uses.windows.items
uses_by uses objects.File = uses.files.items

-- how many calls of the profile name a handle of a rank
abbrev pub count_at : List HandleUses → ℕ → Option ℕ → ℕ
count_at uses rank None = 0
count_at uses rank (Some handle) = unwrap_or (option_and_then (λ u. slice_get u.counts.items handle) (slice_get uses rank)) 0

-- how many of them don't end it
abbrev pub used_at : List HandleUses → ℕ → Option ℕ → ℕ
used_at uses rank None = 0
used_at uses rank (Some handle) = unwrap_or (option_and_then (λ u. slice_get u.used.items handle) (slice_get uses rank)) 0

-- How many calls name a handle of a rank: all, or those that don't end it.
abbrev pub count_for : Choice → List HandleUses → ℕ → Option ℕ → ℕ
count_for choices.Named uses rank handle = count_at uses rank handle
count_for choices.Used uses rank handle = used_at uses rank handle

-- ---- by halves

-- a handle, as it is ordered
abbrev pub place_of : ℕ → Stretch → Place
place_of at handle = record { number = handle.number; first = handle.first; handle = at }

-- the handles, the first of which stands at this place
abbrev pub places_from : ℕ → List Stretch → List Place
places_from at [] = []
places_from at (handle ∷ handles) = place_of at handle ∷ places_from (at + 1) handles

-- A handle comes before another or is it: by its number, its first call and its place.
pub record Comes (p q : Place) : Type 0 where
  pub numbers : p.number ≤ q.number
  pub firsts : p.number ≡ q.number → p.first ≤ q.first
  pub handles : p.number ≡ q.number → p.first ≡ q.first → p.handle ≤ q.handle

-- All handles, in that order.
pub record AreOrdered (handles : List Stretch) (places : List Place) : Type 0 where
  pub each : (i : ℕ) (p : Place) → slice_get places i ≡ Some p → (handle : Stretch) × (slice_get handles p.handle ≡ Some handle) × (p ≡ place_of p.handle handle)
  pub whole : (at : ℕ) (handle : Stretch) → slice_get handles at ≡ Some handle → (i : ℕ) × (slice_get places i ≡ Some (place_of at handle))
  pub sorted : (i j : ℕ) (d : Place) → i ≤ j → j < length places → Comes (slice_index_or places i d) (slice_index_or places j d)

-- in that order the handle is of a lower number, or of this one and begins at the call or before it
abbrev pub precedes : ℕ → ℕ → Place → Bool
precedes number call p = nat_lt p.number number || ((p.number == number) && nat_le p.first call)
