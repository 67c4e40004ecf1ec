-- Runs: cells of one rank without a gap.
use Rattle.std.specs.Prelude.{◌≡◌, ℕ, ◌+◌, ◌^◌, ◌<◌, ◌≤◌, ⊤, true, Option, Some, List, [], ◌∷◌, ◌++◌, length, if◌then◌else◌}
use Rattle.std.specs.FinMap.{entries}
use Rattle.std.specs.Int.{w32}
use Rattle.std.specs.List.{flat_map}
use Rattle.trace_know.specs.declared.cell.Known.{Known}
use Rattle.trace_know.specs.Listing.{is_behind}
use Rattle.trace_know.specs.Placed.{IsPlaced}
use Rattle.trace_know.specs.Runs.{placed_cells}
use Rattle.trace_know.specs.View.{View}
use Rattle.trace_wire.specs.Forms.{number}
use Rattle.trace_wire.specs.Cells.{Entry, IsInRange, is_past, knowns_bytes, place_form}

-- what is known of places of a rank, from a first one on without a gap
pub record PlacedRun : Type 0 where
  pub rank : ℕ
  pub first : ℕ
  pub cells : List Known

-- a run from a place of a rank on
abbrev pub placed_run : ℕ × ℕ → List Known → PlacedRun
placed_run here cells = record { rank = here.0; first = here.1; cells = cells }

-- a cell in front of runs: it begins the first of them where that goes on right behind it, and is a run by itself
-- elsewhere
abbrev pub in_front : Entry → List PlacedRun → List PlacedRun
in_front e [] = placed_run e.0 (e.1 ∷ []) ∷ []
in_front e (r ∷ rs) = if is_behind e.0 (r.rank, r.first) then placed_run e.0 (e.1 ∷ r.cells) ∷ rs else placed_run e.0 (e.1 ∷ []) ∷ r ∷ rs

-- the maximal runs of cells
abbrev pub runs_of : List Entry → List PlacedRun
runs_of [] = []
runs_of (e ∷ es) = in_front e (runs_of es)

-- the cells of a run, and of runs
abbrev pub run_cells : PlacedRun → List Entry
run_cells r = placed_cells r.rank r.first r.cells

-- all cells of some runs
abbrev pub cells_in : List PlacedRun → List Entry
cells_in rs = flat_map run_cells rs

-- Each can stand at its place from one on, and lies in its range.
abbrev pub AreKnown : ℕ → ℕ → List Known → Type 0
AreKnown rank place [] = ⊤
AreKnown rank place (k ∷ ks) = (IsPlaced rank place k × IsInRange k) × AreKnown rank (place + 1) ks

-- the place right behind a run: the next one begins past it
abbrev pub behind : PlacedRun → ℕ × ℕ
behind r = (r.rank, r.first + length r.cells)

-- a run that can stand past a place: it has cells, and each can stand at its place, with values in their ranges
pub record RunFits (before : Option (ℕ × ℕ)) (r : PlacedRun) : Type 0 where
  pub past : is_past before (r.rank, r.first) ≡ true
  pub rank : r.rank < 2 ^ 32
  pub some : 0 < length r.cells
  pub places : r.first + length r.cells ≤ 2 ^ 40
  pub cells : AreKnown r.rank r.first r.cells

-- Each run begins past the place right behind the one before.
abbrev pub AreRuns : Option (ℕ × ℕ) → List PlacedRun → Type 0
AreRuns before [] = ⊤
AreRuns before (r ∷ rs) = RunFits before r × AreRuns (Some (behind r)) rs

-- A run that can follow a place was put behind what is known, and ends right before this place.
abbrev pub AddsRun : Option (ℕ × ℕ) → PlacedRun → View → View → ℕ × ℕ → Type 0
AddsRun before r old new end = (is_past before (r.rank, r.first) ≡ true) × (end ≡ behind r) × (entries new ≡ entries old ++ run_cells r)

-- a run: rank and first place, how many cells, and what is known at each
abbrev pub run_bytes : PlacedRun → List ℕ
run_bytes r = place_form.spell (r.rank, r.first) ++ ((number w32).spell (length r.cells) ++ knowns_bytes r.cells)

-- runs one after another
abbrev pub runs_bytes : List PlacedRun → List ℕ
runs_bytes rs = flat_map run_bytes rs
