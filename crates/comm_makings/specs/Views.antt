-- What a rank called on each of its communicators.
use Rattle.std.specs.Prelude.{◌≡◌, ◌⊎◌, ◌<◌, ℕ, ◌+◌, ◌==◌, ◌&&◌, Bool, true, false, not, List, [], ◌∷◌, Option, Some, None, cond, is_some, length, unwrap_or}
use Rattle.std.specs.List.{slice_get}
use Rattle.std.specs.Option.{option_and_then, option_map}
use Rattle.mpi_model.specs.declared.object.Object.TheVariants as objects
use Rattle.comm_makings.specs.Each.{EachIs, ListsAre}
use Rattle.comm_makings.specs.Here.{making_of}
use Rattle.comm_makings.specs.Naming.{handles_of, meant_of}
use Rattle.comm_makings.specs.Objects.{IsObjectView}
use Rattle.comm_makings.specs.declared.calls.Action.{Action}
use Rattle.comm_makings.specs.declared.calls.Action.TheVariants as actions
use Rattle.comm_makings.specs.declared.calls.CommCall.{CommCall}
use Rattle.comm_makings.specs.declared.calls.Making.{Making}
use Rattle.comm_makings.specs.declared.calls.Making.TheVariants as makings
use Rattle.comm_makings.specs.declared.calls.RankCalls.{RankCalls}
use Rattle.comm_makings.specs.declared.handle.Meant.{Meant}
use Rattle.comm_makings.specs.declared.view.RankView.{RankView}

-- MPI_Comm_create_group: collective over a group and not over the parent
abbrev pub is_by_group : Making → Bool
is_by_group (makings.CreateGroup group tag) = true
is_by_group _ = false

-- a making by a group, or else one by all members of the parent
abbrev pub is_kind : Bool → Making → Bool
is_kind by_group making = cond by_group (is_by_group making) (not (is_by_group making))

-- the place of a call before the others, where it counts
abbrev pub place_if : Bool → ℕ → List ℕ → List ℕ
place_if counts at others = cond counts (at ∷ others) others

-- A call counts where it makes communicators of the handle, and from the first on whose parent is unknown none does.
abbrev pub making_before : Bool → ℕ → ℕ → Option Making → Option ℕ → List ℕ → List ℕ
making_before by_group handle at None parent others = others
making_before by_group handle at (Some making) None others = []
making_before by_group handle at (Some making) (Some parent) others = place_if (is_kind by_group making && (parent == handle)) at others

-- The calls that make communicators of a handle, the first of which stands at this place of the rank's list: those
-- before the first whose parent is unknown.
abbrev pub makings_on : Bool → ℕ → ℕ → List CommCall → List Meant → List ℕ
makings_on by_group handle at [] meant = []
makings_on by_group handle at (call ∷ calls) [] = []
makings_on by_group handle at (call ∷ calls) (here ∷ meant) = making_before by_group handle at (making_of call.action) here.comm (makings_on by_group handle (at + 1) calls meant)

-- the rank that a call of MPI_Comm_rank tells
abbrev pub rank_told : Bool → Action → Option ℕ
rank_told true (actions.CommRank comm rank) = rank
rank_told _ _ = None

-- what a call tells on the handle, or else what the later ones tell
abbrev pub told_before : ℕ → Option ℕ → Option ℕ → Option ℕ → Option ℕ
told_before handle None told others = others
told_before handle (Some comm) None others = others
told_before handle (Some comm) (Some rank) others = cond (comm == handle) (Some rank) others

-- the rank that is told, or else what the others tell
abbrev pub told_or : Option ℕ → Option ℕ → Option ℕ
told_or None others = others
told_or (Some rank) others = Some rank

-- what is told after a call told a rank
abbrev pub told_now : Bool → ℕ → Option ℕ → Option ℕ
told_now here rank (Some told) = Some told
told_now here rank None = cond here (Some rank) None

-- what MPI_Comm_rank first tells on a handle
abbrev pub first_told_on : ℕ → List CommCall → List Meant → Option ℕ
first_told_on handle [] meant = None
first_told_on handle (call ∷ calls) [] = None
first_told_on handle (call ∷ calls) (here ∷ meant) = told_before handle here.comm (rank_told call.returned call.action) (first_told_on handle calls meant)

-- the handle that a call names, by its place
abbrev pub comm_at : List Meant → ℕ → Option ℕ
comm_at meant at = option_and_then (λ m. m.comm) (slice_get meant at)

-- the call makes communicators, of a parent that is unknown
abbrev pub is_orphan : CommCall → Option ℕ → Bool
is_orphan call parent = is_some (making_of call.action) && not (is_some parent)

-- the same of the call at a place, where there is one
abbrev pub is_orphan_at : List CommCall → List Meant → ℕ → Bool
is_orphan_at calls meant at = unwrap_or (option_map (λ call. is_orphan call (comm_at meant at)) (slice_get calls at)) false

-- The first call that makes communicators of an unknown parent stands at this place; where none does, it is behind the
-- last.
pub record IsEnd (calls : List CommCall) (meant : List Meant) (end : ℕ) : Type 0 where
  pub none : (at : ℕ) → at < end → is_orphan_at calls meant at ≡ false
  pub one : (end ≡ length calls) ⊎ (is_orphan_at calls meant end ≡ true)

-- What a rank's numbers mean, and what it called on each handle.
pub record IsView (world : ℕ) (calls : RankCalls) (view : RankView) : Type 0 where
  pub handles : view.handles.items ≡ handles_of world calls.own calls.calls.items
  pub meant : view.meant.items ≡ meant_of world calls.own calls.calls.items
  pub makings : ListsAre view.makings.items (λ handle. makings_on false handle 0 calls.calls.items view.meant.items)
  pub makings_each : length view.makings.items ≡ length view.handles.items
  pub by_group : ListsAre view.by_group.items (λ handle. makings_on true handle 0 calls.calls.items view.meant.items)
  pub by_group_each : length view.by_group.items ≡ length view.handles.items
  pub told : EachIs view.told.items (λ handle. first_told_on handle calls.calls.items view.meant.items)
  pub told_each : length view.told.items ≡ length view.handles.items
  pub end : IsEnd calls.calls.items view.meant.items view.end
  pub windows : IsObjectView objects.Window calls.calls.items view.meant.items (length view.handles.items) view.windows
  pub files : IsObjectView objects.File calls.calls.items view.meant.items (length view.handles.items) view.files

-- those of all ranks
pub record AreViews (world : ℕ) (ranks : List RankCalls) (views : List RankView) : Type 0 where
  pub same : length views ≡ length ranks
  pub each : (rank : ℕ) (view : RankView) (calls : RankCalls) → slice_get views rank ≡ Some view → slice_get ranks rank ≡ Some calls → IsView world calls view
