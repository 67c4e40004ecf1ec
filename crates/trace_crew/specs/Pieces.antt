-- What a piece gives, and what a list of pieces does.
use Rattle.std.specs.Prelude.{◌≡◌, ℕ, ◌+◌, Result, Ok, Err, Some, List, [], ◌∷◌, ◌++◌, ⊤}
use Rattle.std.specs.List.{flat_map}
use Rattle.mpi_model.specs.declared.event.Event.{Event}
use Rattle.dumpi_text.specs.declared.fault.TextCause.{TextCause}
use Rattle.dumpi_text.specs.declared.fault.TextCause.TheVariants as causes
use Rattle.dumpi_text.specs.declared.fault.TextFault.{TextFault}
use Rattle.dumpi_text.specs.declared.fault.TextFault.TheVariants as faults
use Rattle.trace_know.specs.Segment.{PlacedEvents}
use Rattle.trace_know.specs.declared.segment.SegmentFault.TheVariants.{Place}
use Rattle.dumpi_calls.specs.Collected.{AreSegments, HasPlacesPast, collected}
use Rattle.dumpi_calls.specs.Walks.{IsStopped}
use Rattle.dumpi_calls.specs.Whole.{AreEvents}
use Rattle.dumpi_calls.specs.declared.collect.Memory.{Memory as NoMemory}
use Rattle.dumpi_calls.specs.declared.fault.WalkCause.{WalkCause}
use Rattle.dumpi_calls.specs.declared.fault.WalkFault.{WalkFault}
use Rattle.dumpi_calls.specs.declared.fault.WalkCause.TheVariants.{Text, Missing, Wrong, Sink, Memory}
use Rattle.trace_crew.specs.declared.piece.TextPiece.{TextPiece}
use Rattle.trace_crew.specs.declared.queue.item.Worker.{Worker}
use Rattle.trace_crew.specs.declared.piece.FaultyPiece.{FaultyPiece}
use Rattle.trace_crew.specs.declared.piece.PieceAt.{PieceAt}
use Rattle.trace_crew.specs.declared.piece.PieceFault.{PieceFault}
use Rattle.trace_crew.specs.declared.piece.PieceFault.TheVariants as pieces

-- ---- one piece

-- the segments of the events of the piece's whole text
abbrev pub GivesSegments : TextPiece → List PlacedEvents → Type 0
GivesSegments piece segments = (events : List Event) × AreEvents piece.text.items events × AreSegments piece.rank piece.first events segments

-- a cause that a line of the text gives, and no reader
abbrev pub IsOfLine : TextCause → Type 0
IsOfLine (causes.Line fault) = ⊤
IsOfLine causes.Read = ⊥

-- the fault is the text's own
abbrev pub IsOfText : TextFault → Type 0
IsOfText (faults.At line cause) = IsOfLine cause
IsOfText faults.Memory = ⊥
IsOfText faults.Ended = ⊥

-- a walk stops for this cause by the text alone, and not by its reader or for want of memory
abbrev pub IsOwn : {F : Type 0} → WalkCause F → Type 0
IsOwn (Text fault) = IsOfText fault
IsOwn (Missing parameter) = ⊤
IsOwn (Wrong parameter) = ⊤
IsOwn (Sink fault) = ⊥
IsOwn Memory = ⊥

-- Why a piece gives no segments: its text's first fault, or a place past the last; or there was no memory.
abbrev pub IsRefusedFor : TextPiece → PieceFault → Type 0
IsRefusedFor piece (pieces.Walk fault) = (held : List Event) × IsStopped collected (Some piece.text.items) [] held fault × IsOwn fault.cause
IsRefusedFor piece (pieces.Segment fault) = (fault ≡ Place) × ((events : List Event) × AreEvents piece.text.items events × HasPlacesPast piece.first events)
IsRefusedFor piece pieces.Memory = ⊤

-- of a piece at which a walk stops for this, that is why it gives no segments
abbrev pub IsFaultOfWalk : WalkFault NoMemory → PieceFault → Type 0
IsFaultOfWalk fault told = (piece : TextPiece) (held : List Event) → IsStopped collected (Some piece.text.items) [] held fault → IsRefusedFor piece told

-- ---- the pieces of a worker

-- what came of a piece: its segments, or why there are none
abbrev pub Outcome : Type 0
Outcome = Result (List PlacedEvents) PieceFault

-- what became of a piece: its segments, or why it has none
abbrev pub IsOutcome : TextPiece → Outcome → Type 0
IsOutcome piece (Ok segments) = GivesSegments piece segments
IsOutcome piece (Err fault) = IsRefusedFor piece fault

-- an outcome for each piece
abbrev pub AreOutcomes : List TextPiece → List Outcome → Type 0
AreOutcomes [] [] = ⊤
AreOutcomes [] (o ∷ os) = ⊥
AreOutcomes (piece ∷ pieces) [] = ⊥
AreOutcomes (piece ∷ pieces) (o ∷ os) = IsOutcome piece o × AreOutcomes pieces os

-- the segments of a piece, none where it was refused
abbrev pub segments_in : Outcome → List PlacedEvents
segments_in (Ok segments) = segments
segments_in (Err fault) = []

-- a place of a worker's list
abbrev pub place_of : Worker → ℕ → PieceAt
place_of worker place = record { worker = worker; place = place }

-- the piece that stands there, with its fault
abbrev pub faulty : Worker → ℕ → PieceFault → FaultyPiece
faulty worker place fault = record { at = place_of worker place; fault = fault }

-- the fault of the piece at a place of a worker's list, where it has one
abbrev pub faults_in : Worker → ℕ → Outcome → List FaultyPiece
faults_in worker place (Ok segments) = []
faults_in worker place (Err fault) = faulty worker place fault ∷ []

-- those of the pieces from a place on
abbrev pub faults_from : Worker → ℕ → List Outcome → List FaultyPiece
faults_from worker place [] = []
faults_from worker place (o ∷ os) = faults_in worker place o ++ faults_from worker (place + 1) os

-- A worker's pieces gave these segments, whole, each as often as given, and in their order; and these faults, with the
-- worker and the places of their pieces. Each piece gave its segments or its fault.
pub record Gave (worker : Worker) (pieces : List TextPiece) (segments : List PlacedEvents) (faults : List FaultyPiece) : Type 0 where
  pub outcomes : List Outcome
  pub are : AreOutcomes pieces outcomes
  pub segments_are : segments ≡ flat_map segments_in outcomes
  pub faults_are : faults ≡ faults_from worker 0 outcomes
