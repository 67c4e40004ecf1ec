-- What is read of a piece, and of the piece at its place.
use Rattle.std.proofs.Common.{◌≡◌, ◌∙◌, ◌<◌, ℕ, zero, suc, List, [], ◌∷◌, Option, Result, Ok, Err, IfErr, IfOk, ap, arith, get_or, length, refl, subst, sym}
use Rattle.std.specs.List.{HoldsAt}
use Rattle.std.proofs.lemmas.List.{get_or_default}
use Rattle.run_files.specs.Manifests.{PieceParts}
use Rattle.run_inputs.specs.Files.{NamesFailed}
use Rattle.run_inputs.specs.declared.faults.fault.RunFault.{RunFault}
use Rattle.command_runs.specs.Notes.{IsNoteOf}
use Rattle.command_runs.specs.Pieces.{AreFactsOf, AreSegmentsOf, RefusesPiece, facts_of_piece}
use Rattle.command_runs.specs.Reads.{IsCutAt, IsNotedAt, IsWholeAt}
use Rattle.command_runs.specs.declared.pieces.noted.NotedPiece.{NotedPiece}
use Rattle.command_runs.specs.declared.pieces.piece.PieceRead.{PieceRead}
use Rattle.command_runs.specs.declared.pieces.piece.SegmentsRead.{SegmentsRead}

abbrev Files : Type 0
Files = List ℕ → Option (List ℕ)

-- what holds of a piece holds at its place
at : (P : PieceParts → Type 0) (pieces : List PieceParts) (place : ℕ) (piece : PieceParts) → piece ≡ get_or pieces place piece → place < length pieces → P piece → HoldsAt P pieces place
at P pieces place piece is lt holds d = subst P (is ∙ get_or_default pieces place piece d lt) holds

ok_at : {X : Type 0} (P : PieceParts → X → Type 0) (pieces : List PieceParts) (place : ℕ) (piece : PieceParts) (read : Result X RunFault) → piece ≡ get_or pieces place piece → place < length pieces
    → IfOk read (P piece) → IfOk read (λ r. HoldsAt (λ p. P p r) pieces place)
ok_at P pieces place piece (Ok r) is lt holds = at (λ p. P p r) pieces place piece is lt holds
ok_at P pieces place piece (Err fault) is lt holds = tt

err_at : {X : Type 0} (P : PieceParts → RunFault → Type 0) (pieces : List PieceParts) (place : ℕ) (piece : PieceParts) (read : Result X RunFault) → piece ≡ get_or pieces place piece → place < length pieces
    → IfErr read (P piece) → IfErr read (λ fault. HoldsAt (λ p. P p fault) pieces place)
err_at P pieces place piece (Ok r) is lt holds = tt
err_at P pieces place piece (Err fault) is lt holds = at (λ p. P p fault) pieces place piece is lt holds

-- a piece that was read whole
pub whole_at : (file : Files) (fails : Type 0) (pieces : List PieceParts) (place : ℕ) (piece : PieceParts) (read : Result PieceRead RunFault) → piece ≡ get_or pieces place piece → place < length pieces
    → IfOk read (λ r. AreFactsOf file piece (facts_of_piece r.whole)) → IfErr read (RefusesPiece piece.file piece.first (file piece.file)) → IfErr read (NamesFailed fails)
    → IsWholeAt file fails pieces place read
whole_at file fails pieces place piece read is lt ok err failed = record {
  ok = ok_at (λ p r. AreFactsOf file p (facts_of_piece r.whole)) pieces place piece read is lt ok;
  err = err_at (λ p. RefusesPiece p.file p.first (file p.file)) pieces place piece read is lt err;
  failed = failed;
}

-- ..with a note
pub noted_at : (file : Files) (fails : Type 0) (pieces : List PieceParts) (place : ℕ) (piece : PieceParts) (read : Result NotedPiece RunFault) → piece ≡ get_or pieces place piece → place < length pieces
    → IfOk read (λ r. AreFactsOf file piece (facts_of_piece r.whole)) → IfOk read (λ r. IsNoteOf file piece r.note) → IfErr read (RefusesPiece piece.file piece.first (file piece.file))
    → IfErr read (NamesFailed fails) → IsNotedAt file fails pieces place read
noted_at file fails pieces place piece read is lt ok note err failed = record {
  ok = ok_at (λ p r. AreFactsOf file p (facts_of_piece r.whole)) pieces place piece read is lt ok;
  note = ok_at (λ p r. IsNoteOf file p r.note) pieces place piece read is lt note;
  err = err_at (λ p. RefusesPiece p.file p.first (file p.file)) pieces place piece read is lt err;
  failed = failed;
}

-- ..as segments
pub cut_at : (file : Files) (fails : Type 0) (pieces : List PieceParts) (place : ℕ) (piece : PieceParts) (read : Result SegmentsRead RunFault) → piece ≡ get_or pieces place piece → place < length pieces
    → IfOk read (λ r. AreSegmentsOf file piece r.segments.items) → IfErr read (RefusesPiece piece.file piece.first (file piece.file)) → IfErr read (NamesFailed fails)
    → IsCutAt file fails pieces place read
cut_at file fails pieces place piece read is lt ok err failed = record {
  ok = ok_at (λ p r. AreSegmentsOf file p r.segments.items) pieces place piece read is lt ok;
  err = err_at (λ p. RefusesPiece p.file p.first (file p.file)) pieces place piece read is lt err;
  failed = failed;
}

-- ---- what holds at its place holds of a piece

pub here : (P : Files → PieceParts → Type 0) (other file : Files) (all pieces : List PieceParts) (place index : ℕ) (piece : PieceParts) → other ≡ file → all ≡ pieces → place ≡ index
    → piece ≡ get_or pieces index piece → HoldsAt (P other) all place → P file piece
here P other file all pieces place index piece same listed standing is holds =
    subst (λ (f : Files). P f piece) same
    (subst (P other) (ap (λ (ps : List PieceParts). get_or ps place piece) listed ∙ ap (λ (n : ℕ). get_or pieces n piece) standing ∙ sym is) (holds piece))

-- the piece at a place
pub there : (pieces : List PieceParts) (place : ℕ) → place < length pieces → (piece : PieceParts) × (piece ≡ get_or pieces place piece)
there [] place lt = absurd (omega (arith, lt))
there (piece ∷ pieces) zero lt = (piece, refl)
there (piece ∷ pieces) (suc place) lt = there pieces place (omega (arith, lt))
