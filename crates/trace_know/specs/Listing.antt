-- The cells of a view one after another, in rising order of rank and place.
use Rattle.std.specs.Prelude.{ℕ, suc, ◌+◌, Bool, ◌==◌, ◌&&◌, if◌then◌else◌, Option, Some, List, [], ◌∷◌, filter, map}
use Rattle.std.specs.Borrow.{Bor}
use Rattle.std.specs.FinMap.{entries}
use Rattle.trace_know.specs.declared.cell.Known.{Known}
use Rattle.trace_know.specs.Cell.{is_contradiction}
use Rattle.trace_know.specs.View.{View}

-- a rank, a place and what is known there, as an entry of a view
abbrev pub as_entry : ℕ × ℕ × Bor Known → (ℕ × ℕ) × Known
as_entry e = ((e.0, e.1), e.2.now)

-- an entry of a view, as a reader shows it
abbrev pub as_shown : (ℕ × ℕ) × Known → (ℕ × ℕ) × Option Known
as_shown e = (e.0, Some e.1)

-- the cells that are not nothing
abbrev pub cells_of : View → List ((ℕ × ℕ) × Option Known)
cells_of view = map as_shown (entries view)

-- the places with a contradiction among these, in their order
abbrev pub conflicts_in : List ((ℕ × ℕ) × Known) → List (ℕ × ℕ)
conflicts_in es = map (λ e. e.0) (filter (λ e. is_contradiction e.1) es)

-- the places with a contradiction
abbrev pub conflicts_of : View → List (ℕ × ℕ)
conflicts_of view = conflicts_in (entries view)

-- a place is the one right behind another
abbrev pub is_behind : ℕ × ℕ → ℕ × ℕ → Bool
is_behind before here = (before.0 == here.0) && (before.1 + 1 == here.1)

-- how many cells stand behind a place without a gap: the first right behind it, and each other right behind the one
-- before
abbrev pub run_behind : ℕ × ℕ → List ((ℕ × ℕ) × Known) → ℕ
run_behind before [] = 0
run_behind before (e ∷ es) = if is_behind before e.0 then suc (run_behind e.0 es) else 0

-- how many cells stand without a gap from the first one on
abbrev pub run_len : List ((ℕ × ℕ) × Known) → ℕ
run_len [] = 0
run_len (e ∷ es) = suc (run_behind e.0 es)
