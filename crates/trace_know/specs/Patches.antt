-- Patches: runs that take the place of those of ours that they touch.
use Rattle.std.specs.Prelude.{◌≡◌, ◌⊎◌, ℕ, None, ◌+◌, ◌<◌, ◌≤◌, List, ◌++◌, length, reverse, slice_index_or}
use Rattle.std.specs.FinMap.{get}
use Rattle.trace_know.specs.declared.run.Run.{Run}
use Rattle.trace_know.specs.View.{View, join}
use Rattle.trace_know.specs.Runs.{Above, of_run, of_runs, end_place, start_of, end_of, last_end, last_of}

-- nothing in the view stands at a place of the run, right before it or right behind it
abbrev pub IsClear : Run → View → Type 0
IsClear run view = (place : ℕ) → run.first ≤ place + 1 → place ≤ end_place run → get view (run.rank, place) ≡ None

-- the view has all that the run has, or nothing that touches it
abbrev pub IsSettled : Run → View → Type 0
IsSettled run view = (join view (of_run run) ≡ view) ⊎ IsClear run view

-- the view has all that each of the runs has, or nothing that touches it
abbrev pub AllSettled : List Run → View → Type 0
AllSettled runs view = (k : ℕ) (d : Run) → k < length runs → IsSettled (slice_index_or runs k d) view

-- the one list adds to the runs what the other does
abbrev pub AddTheSame : List Run → List Run → List Run → Type 0
AddTheSame runs one other = join (of_runs runs) (of_runs one) ≡ join (of_runs runs) (of_runs other)

-- there are runs, and the last of them begins behind all others
pub record LastIsBehind (runs others : List Run) : Type 0 where
  pub some : 0 < length runs
  pub behind : (d : Run) → last_end 0 others < start_of (last_of runs d)

-- there are others, and the last of them ends no earlier than the last of the runs begins
pub record LastIsReached (runs others : List Run) : Type 0 where
  pub some : 0 < length others
  pub reached : (d e : Run) → start_of (last_of runs d) ≤ end_of (last_of others e)

-- a run of the patch has all that those of the runs have that it touches
abbrev pub Covers : List Run → List Run → Type 0
Covers patch runs = (i j : ℕ) (d e : Run) → i < length runs → j < length patch
    → start_of (slice_index_or runs i d) ≤ end_of (slice_index_or patch j e) → start_of (slice_index_or patch j e) ≤ end_of (slice_index_or runs i d)
    → join (of_run (slice_index_or patch j e)) (of_run (slice_index_or runs i d)) ≡ of_run (slice_index_or patch j e)

-- What holds while the last runs of two lists go over, one after another, to a third, which falls: what is left of
-- either list and then what went over rise, and a run of the patch has all that those of the runs have that it touches.
pub record IsMerging (runs patch falling : List Run) : Type 0 where
  pub before_runs : Above 0 (runs ++ reverse falling)
  pub before_patch : Above 0 (patch ++ reverse falling)
  pub covers : Covers patch runs

-- what the three lists tell together
abbrev pub of_all : List Run → List Run → List Run → View
of_all runs patch falling = of_runs (runs ++ (patch ++ reverse falling))
