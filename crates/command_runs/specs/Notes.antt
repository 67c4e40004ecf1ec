-- What is noted of the texts of a run.
use Rattle.std.specs.Prelude.{◌≡◌, ℕ, List, [], ◌∷◌, Option}
use Rattle.run_files.specs.Manifests.{PieceParts}
use Rattle.text_notes.specs.Noted.{TellsNotes}
use Rattle.text_notes.specs.Words.{NoteParts, walked_in}
use Rattle.run_inputs.specs.FileNames.{shown_name}
use Rattle.run_inputs.specs.Starts.{BeginsSo}

-- The note is that of the piece: of its rank and first call, under the name of its file, and what its text tells.
pub record IsNoteOf (file : List ℕ → Option (List ℕ)) (piece : PieceParts) (note : NoteParts) : Type 0 where
  pub rank : note.rank ≡ piece.rank
  pub first : note.first ≡ piece.first
  pub path : note.path ≡ piece.file
  pub name : note.file ≡ shown_name piece.file
  pub told : TellsNotes (file piece.file) note.unread (walked_in note)
  pub start : BeginsSo (file piece.file) note.start

-- The notes are those of these pieces, in their order.
abbrev pub AreNotesOf : (List ℕ → Option (List ℕ)) → List PieceParts → List NoteParts → Type 0
AreNotesOf file [] notes = notes ≡ []
AreNotesOf file (piece ∷ pieces) notes = (note : NoteParts) × (rest : List NoteParts)
    × IsNoteOf file piece note × AreNotesOf file pieces rest × (notes ≡ note ∷ rest)
