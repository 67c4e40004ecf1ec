-- What the segments of a text tell of the piece of a manifest whose text it is.
use Rattle.std.proofs.Common.{◌∙◌, ℕ, List, Option, Some, None, ap₂, sym, subst}
use Rattle.mpi_model.specs.declared.event.Event.{Event}
use Rattle.dumpi_calls.specs.Whole.{AreEvents, SegmentsTellAll, TellsEvents}
use Rattle.trace_know.specs.Segment.{PlacedEvents, enter_place}
use Rattle.trace_know.specs.Trace.{facts_from, facts_of_all}
use Rattle.trace_crew.specs.declared.piece.TextPiece.{TextPiece}
use Rattle.trace_crew.specs.Pieces.{GivesSegments}
use Rattle.run_files.specs.Manifests.{PieceParts}
use Rattle.run_inputs.specs.Files.{IsFile}
use Rattle.command_runs.specs.Pieces.{TellsFacts}
use Rattle.command_runs.specs.NodeTexts.{IsTextOf}

pub events_told : (file : Option (List ℕ)) (bytes : List ℕ) (events : List Event) → IsFile file bytes → AreEvents bytes events → TellsEvents file events
events_told None bytes events is are = tt
events_told (Some told) bytes events is are = subst (λ (t : List ℕ). AreEvents t events) (sym is) are

-- the segments of its text are facts of the piece
pub facts_given : SegmentsTellAll → (file : List ℕ → Option (List ℕ)) (piece : PieceParts) (text : TextPiece) (segments : List PlacedEvents) → IsTextOf file piece text
    → GivesSegments text segments → TellsFacts (file piece.file) piece.rank piece.first (facts_of_all segments)
facts_given tells file piece text segments is gives = (
  gives.0,
  events_told (file piece.file) text.text.items gives.0 is.2 gives.1,
  tells text.rank text.first gives.0 segments gives.2 ∙ ap₂ (λ (rank first : ℕ). facts_from rank (enter_place first) gives.0) is.0 is.1,
)
