-- Runs that touch, room for them, and what comes of the one that takes in the other.
use Rattle.std.specs.Prelude.{◌≡◌, ℕ, ◌+◌, ◌≤◌, length, max, min}
use Rattle.std.specs.VecDeque.{deque_capacity}
use Rattle.trace_know.specs.declared.run.Run.{Run}
use Rattle.trace_know.specs.declared.segment.TheConstants.{PLACES}
use Rattle.trace_know.specs.Runs.{IsCounted, end_place, of_run}
use Rattle.trace_know.specs.View.{join}

-- the runs overlap, or one begins right where the other ends, where they are of one rank
abbrev pub Touches : Run → Run → Type 0
Touches one other = (one.first ≤ end_place other) × (other.first ≤ end_place one)

-- room for so many cells is room for both together
abbrev pub FitTogether : ℕ → Run → Run → Type 0
FitTogether room one other = (end_place one ≤ other.first + room) × (end_place other ≤ one.first + room)

-- the one has no more cells than the other
abbrev pub IsNoLonger : Run → Run → Type 0
IsNoLonger one other = length one.cells.items ≤ length other.cells.items

-- the places of the run are among those that the base's memory has room for, from a lowest one on
abbrev pub HasRoomFrom : ℕ → Run → Run → Type 0
HasRoomFrom low base run = (low ≤ run.first) × (end_place run ≤ low + deque_capacity base.cells)

-- the run can go into the base, where a piece that it touches goes too
pub record GoesInto (low : ℕ) (base piece run : Run) : Type 0 where
  pub ranked : run.rank ≡ piece.rank
  pub touches : Touches run piece
  pub room : HasRoomFrom low base run
  pub shorter : IsNoLonger run base

-- the run can take in a piece: one of its rank that touches it, at places of a trace, and the run counts its cells
-- rightly
pub record CanTakeIn (piece run : Run) : Type 0 where
  pub rank : piece.rank ≡ run.rank
  pub touches : Touches piece run
  pub places : end_place piece ≤ PLACES
  pub counted : IsCounted run

-- the new run has what the old one and a piece had together, from where the first of them begins to where the last ends
pub record TakesIn (piece old new : Run) : Type 0 where
  pub view : of_run new ≡ join (of_run old) (of_run piece)
  pub rank : new.rank ≡ old.rank
  pub first : new.first ≡ min old.first piece.first
  pub end : end_place new ≡ max (end_place old) (end_place piece)
  pub counted : IsCounted new
