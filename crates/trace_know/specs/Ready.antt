-- Segments whose events stand as cells.
use Rattle.std.specs.Prelude.{◌≡◌, ℕ, List, [], ◌∷◌, map}
use Rattle.mpi_model.specs.declared.event.Event.{Event}
use Rattle.trace_know.specs.declared.cell.Known.{Known}
use Rattle.trace_know.specs.declared.cell.Known.TheVariants.{One, Contradiction}
use Rattle.trace_know.specs.declared.run.Run.{Run}
use Rattle.trace_know.specs.Runs.{IsCounted, sound_among}
use Rattle.trace_know.specs.Segment.{PlacedEvents, IsPiece, IsSegment}

-- the events of those cells that have one
abbrev pub events_among : List Known → List Event
events_among [] = []
events_among (One event ∷ cells) = event ∷ events_among cells
events_among (Contradiction ∷ cells) = events_among cells

-- the events that the run's cells are, with their rank and their first place
abbrev pub segment_in : Run → PlacedEvents
segment_in run = record { rank = run.rank; first_place = run.first; events = events_among run.cells.items }

-- the cells are the events of a segment
pub record IsReady (run : Run) : Type 0 where
  pub whole : run.cells.items ≡ map (λ e. One e) (events_among run.cells.items)
  pub counted : IsCounted run
  pub segment : IsSegment (segment_in run)

-- the cells are the events of a piece, which may have more of them than a segment
pub record IsReadyPiece (run : Run) : Type 0 where
  pub whole : run.cells.items ≡ map (λ e. One e) (events_among run.cells.items)
  pub counted : IsCounted run
  pub piece : IsPiece (segment_in run)

-- the cells are events, and so many of them stand before the first at which a readable prefix ends
pub record AreEvents (cells : List Known) (sound : ℕ) : Type 0 where
  pub whole : cells ≡ map (λ e. One e) (events_among cells)
  pub counted : sound ≡ sound_among cells
