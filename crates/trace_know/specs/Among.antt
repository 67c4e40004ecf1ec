-- Where a piece stands among runs in their order.
use Rattle.std.specs.Prelude.{◌≡◌, ℕ, ◌+◌, ◌<◌, ◌≤◌, List, length, take, slice_index_or}
use Rattle.std.specs.List.{SameBelow, ShiftedDown}
use Rattle.trace_know.specs.declared.run.Run.{Run}
use Rattle.trace_know.specs.Runs.{spot, end_place, start_of, end_of, last_end, last_of}
use Rattle.trace_know.specs.Touching.{GoesInto, Touches, IsNoLonger}

-- what holds of the run at an index, if there is one
abbrev pub IfAt : ℕ → List Run → (Run → Type 0) → Type 0
IfAt at runs P = (d : Run) → at < length runs → P (slice_index_or runs at d)

-- what holds of each run from an index to below another
abbrev pub Each : ℕ → ℕ → List Run → (Run → Type 0) → Type 0
Each low high runs P = (i : ℕ) (d : Run) → low ≤ i → i < high → P (slice_index_or runs i d)

-- the piece touches no run, and belongs before the one at an index
pub record StandsApart (at : ℕ) (runs : List Run) (piece : Run) : Type 0 where
  pub before : last_end 0 (take at runs) < start_of piece
  pub after : IfAt at runs (λ next. end_of piece < start_of next)

-- the piece touches the runs from an index to below another, of which there are some, and no others
pub record AreTouched (low high : ℕ) (runs : List Run) (piece : Run) : Type 0 where
  pub some : low < high
  pub bound : high ≤ length runs
  pub before : last_end 0 (take low runs) < start_of piece
  pub reached : IfAt low runs (λ run. start_of piece ≤ end_of run)
  pub begun : Each low high runs (λ run. start_of run ≤ end_of piece)
  pub after : IfAt high runs (λ next. end_of piece < start_of next)

-- the run touches the piece, and lies from one place to another
pub record IsReached (from to : ℕ) (piece run : Run) : Type 0 where
  pub ranked : run.rank ≡ piece.rank
  pub touches : Touches run piece
  pub low : from ≤ run.first
  pub high : end_place run ≤ to

-- So many runs from an index on can go into the base, where a piece goes too. The runs before them end before the
-- lowest place that the base has room for, and the next one after them begins past the piece.
pub record AllGoInto (low at count : ℕ) (runs : List Run) (base piece : Run) : Type 0 where
  pub bound : at + count ≤ length runs
  pub before : last_end 0 (take at runs) < spot piece.rank low
  pub each : Each at (at + count) runs (GoesInto low base piece)
  pub after : IfAt (at + count) runs (λ next. end_of piece < start_of next)

-- the new runs are the old ones without the one at an index
pub record IsWithout (at : ℕ) (old new : List Run) : Type 0 where
  pub len : length new + 1 ≡ length old
  pub below : SameBelow old new at
  pub beyond : ShiftedDown old new at
  pub front : (k : ℕ) → k ≤ at → take k new ≡ take k old

-- none of the runs from an index to below another has more cells than this one of them
pub record IsLongest (longest low high : ℕ) (runs : List Run) : Type 0 where
  pub from : low ≤ longest
  pub to : longest < high
  pub each : (i : ℕ) (d : Run) → low ≤ i → i < high → IsNoLonger (slice_index_or runs i d) (slice_index_or runs longest d)

-- there are runs, and the last of them ends right before a place of a rank
pub record EndRightBefore (rank place : ℕ) (runs : List Run) : Type 0 where
  pub some : 0 < length runs
  pub ranked : (d : Run) → (last_of runs d).rank ≡ rank
  pub placed : (d : Run) → end_place (last_of runs d) ≡ place
