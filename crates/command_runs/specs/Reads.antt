-- What is read of the piece at a place, whoever reads it, to be gathered in the order of the manifest.
use Rattle.std.specs.Prelude.{ℕ, List, Option, Result, IfErr, IfOk}
use Rattle.std.specs.List.{HoldsAt}
use Rattle.trace_know.specs.Segment.{PlacedEvents}
use Rattle.trace_know.specs.Trace.{Trace}
use Rattle.run_files.specs.Manifests.{PieceParts}
use Rattle.text_notes.specs.Words.{NoteParts}
use Rattle.run_inputs.specs.Files.{NamesFailed}
use Rattle.run_inputs.specs.declared.faults.fault.RunFault.{RunFault}
use Rattle.command_runs.specs.Notes.{IsNoteOf}
use Rattle.command_runs.specs.Pieces.{AreFactsOf, AreSegmentsOf, RefusesPiece, facts_of_piece}
use Rattle.command_runs.specs.declared.pieces.noted.NotedPiece.{NotedPiece}
use Rattle.command_runs.specs.declared.pieces.piece.PieceRead.{PieceRead}
use Rattle.command_runs.specs.declared.pieces.piece.SegmentsRead.{SegmentsRead}

-- The facts are those of the piece at a place.
abbrev pub AreFactsAt : (List ℕ → Option (List ℕ)) → List PieceParts → ℕ → Trace → Type 0
AreFactsAt file pieces place facts = HoldsAt (λ piece. AreFactsOf file piece facts) pieces place

-- The segments are those of the piece at a place.
abbrev pub AreSegmentsAt : (List ℕ → Option (List ℕ)) → List PieceParts → ℕ → List PlacedEvents → Type 0
AreSegmentsAt file pieces place segments = HoldsAt (λ piece. AreSegmentsOf file piece segments) pieces place

-- The note is that of the piece at a place.
abbrev pub IsNoteAt : (List ℕ → Option (List ℕ)) → List PieceParts → ℕ → NoteParts → Type 0
IsNoteAt file pieces place note = HoldsAt (λ piece. IsNoteOf file piece note) pieces place

-- The piece at a place is refused so.
abbrev pub RefusesAt : (List ℕ → Option (List ℕ)) → List PieceParts → ℕ → RunFault → Type 0
RefusesAt file pieces place fault = HoldsAt (λ piece. RefusesPiece piece.file piece.first (file piece.file) fault) pieces place

-- The piece at a place was read whole, or it is refused.
pub record IsWholeAt (file : List ℕ → Option (List ℕ)) (fails : Type 0) (pieces : List PieceParts) (place : ℕ) (read : Result PieceRead RunFault) : Type 0 where
  pub ok : IfOk read (λ r. AreFactsAt file pieces place (facts_of_piece r.whole))
  pub err : IfErr read (RefusesAt file pieces place)
  pub failed : IfErr read (NamesFailed fails)

-- It was read whole with a note of its text, or it is refused.
pub record IsNotedAt (file : List ℕ → Option (List ℕ)) (fails : Type 0) (pieces : List PieceParts) (place : ℕ) (read : Result NotedPiece RunFault) : Type 0 where
  pub ok : IfOk read (λ r. AreFactsAt file pieces place (facts_of_piece r.whole))
  pub note : IfOk read (λ r. IsNoteAt file pieces place r.note)
  pub err : IfErr read (RefusesAt file pieces place)
  pub failed : IfErr read (NamesFailed fails)

-- It was read as segments, or it is refused.
pub record IsCutAt (file : List ℕ → Option (List ℕ)) (fails : Type 0) (pieces : List PieceParts) (place : ℕ) (read : Result SegmentsRead RunFault) : Type 0 where
  pub ok : IfOk read (λ r. AreSegmentsAt file pieces place r.segments.items)
  pub err : IfErr read (RefusesAt file pieces place)
  pub failed : IfErr read (NamesFailed fails)
