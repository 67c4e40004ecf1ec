-- Runs.
use Rattle.std.specs.Prelude.{◌≡◌, ℕ, suc, Some, ◌+◌, ◌-◌, ◌*◌, ◌^◌, ◌<◌, ◌≤◌, ⊤, Bool, true, if◌then◌else◌, List, [], ◌∷◌, ◌++◌, length, slice_index_or}
use Rattle.std.specs.List.{slice_get}
use Rattle.std.specs.FinMap.{empty, get, len}
use Rattle.trace_know.specs.declared.cell.Known.{Known}
use Rattle.trace_know.specs.declared.cell.Known.TheVariants.{One, Contradiction}
use Rattle.trace_know.specs.declared.run.Run.{Run}
use Rattle.trace_know.specs.declared.segment.TheConstants.{PLACES}
use Rattle.trace_know.specs.View.{View, join}
use Rattle.trace_know.specs.Rows.{row}
use Rattle.trace_know.specs.Cell.{IsAtMost}
use Rattle.trace_know.specs.Prefix.{enters_unread}
use Rattle.trace_know.specs.Placed.{IsKnowledge}

-- the view of a run
abbrev pub of_run : Run → View
of_run run = row run.rank run.first run.cells.items

-- the view of runs
abbrev pub of_runs : List Run → View
of_runs [] = empty
of_runs (run ∷ runs) = join (of_run run) (of_runs runs)

-- the places of all ranks on one line, with a gap between one rank's last place and the next rank's first
abbrev pub spot : ℕ → ℕ → ℕ
spot rank place = rank * 2 ^ 41 + place + 1

-- where a run begins
abbrev pub start_of : Run → ℕ
start_of run = spot run.rank run.first

-- the place behind a run's last
abbrev pub end_place : Run → ℕ
end_place run = run.first + length run.cells.items

-- where a run ends, behind its last place
abbrev pub end_of : Run → ℕ
end_of run = spot run.rank (end_place run)

-- A readable prefix ends at the cell.
abbrev pub ends_prefix : Known → Bool
ends_prefix (One event) = enters_unread event
ends_prefix Contradiction = true

-- how many cells stand before the first at which a readable prefix ends
abbrev pub sound_among : List Known → ℕ
sound_among [] = 0
sound_among (known ∷ cells) = if ends_prefix known then 0 else suc (sound_among cells)

-- how many of the cells are contradictions
abbrev pub conflicts_among : List Known → ℕ
conflicts_among [] = 0
conflicts_among (One event ∷ cells) = conflicts_among cells
conflicts_among (Contradiction ∷ cells) = suc (conflicts_among cells)

-- the run's counts are those of its cells
pub record IsCounted (run : Run) : Type 0 where
  pub sound : run.sound ≡ sound_among run.cells.items
  pub conflicts : run.conflicts ≡ conflicts_among run.cells.items

-- the run has cells, all at places of a trace, and counts them rightly
pub record IsFilled (run : Run) : Type 0 where
  pub some : 0 < length run.cells.items
  pub places : end_place run ≤ PLACES
  pub counted : IsCounted run

-- the runs rise from a spot on, with a gap before each
abbrev pub Above : ℕ → List Run → Type 0
Above low [] = ⊤
Above low (run ∷ runs) = (low < start_of run) × IsFilled run × Above (end_of run) runs

-- where the last of the runs ends
abbrev pub last_end : ℕ → List Run → ℕ
last_end low [] = low
last_end low (run ∷ runs) = last_end (end_of run) runs

-- the last of the runs, if there is one
abbrev pub last_of : List Run → Run → Run
last_of runs d = slice_index_or runs (length runs - 1) d

-- the runs have the same cells at the same places
pub record IsAlike (one other : Run) : Type 0 where
  pub rank : one.rank ≡ other.rank
  pub first : one.first ≡ other.first
  pub cells : one.cells.items ≡ other.cells.items
  pub sound : one.sound ≡ other.sound
  pub conflicts : one.conflicts ≡ other.conflicts

-- the cells of a rank from a place on, each with its rank and place
abbrev pub placed_cells : ℕ → ℕ → List Known → List ((ℕ × ℕ) × Known)
placed_cells rank place [] = []
placed_cells rank place (known ∷ cells) = ((rank, place), known) ∷ placed_cells rank (place + 1) cells

-- the cells of a run, each with its rank and place
abbrev pub cells_of_run : Run → List ((ℕ × ℕ) × Known)
cells_of_run run = placed_cells run.rank run.first run.cells.items

-- the cells of runs, in their order
abbrev pub listed : List Run → List ((ℕ × ℕ) × Known)
listed [] = []
listed (run ∷ runs) = cells_of_run run ++ listed runs

-- the lists have the same runs
abbrev pub AreAlike : List Run → List Run → Type 0
AreAlike [] [] = ⊤
AreAlike [] (run ∷ runs) = ⊥
AreAlike (run ∷ runs) [] = ⊥
AreAlike (one ∷ ones) (other ∷ others) = IsAlike one other × AreAlike ones others

-- the run has what is known of a rank from place 0 on, up to the first place of which nothing is known
pub record IsFront (runs : List Run) (rank : ℕ) (run : Run) : Type 0 where
  pub cells : (place : ℕ) → place ≤ length run.cells.items → get (of_runs runs) (rank, place) ≡ slice_get run.cells.items place
  pub counted : IsCounted run

-- the view has at least what each of the entries has
abbrev pub AllHeld : List ((ℕ × ℕ) × Known) → View → Type 0
AllHeld [] view = ⊤
AllHeld (e ∷ es) view = IsAtMost (Some e.1) (get view e.0) × AllHeld es view

-- a walk stands before a cell of the first of rising runs, or there are none
abbrev pub IsWalk : ℕ → List Run → Type 0
IsWalk at [] = at ≡ 0
IsWalk at (run ∷ runs) = (at < length run.cells.items) × ((low : ℕ) × Above low (run ∷ runs))

-- What holds of the runs of every knowledge: they rise, their cells stand at places that a trace can have, and are no
-- more than a number that fits a `usize`.
pub record IsHeld (most : ℕ) (runs : List Run) : Type 0 where
  pub above : Above 0 runs
  pub placed : IsKnowledge (of_runs runs)
  pub few : len (of_runs runs) ≤ most
  pub fits : most < 2 ^ 64
