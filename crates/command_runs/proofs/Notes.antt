-- Notes, one piece more.
use Rattle.std.proofs.Common.{◌++◌, ◌∷◌, [], ℕ, List, Option, Some, None, ap, refl, subst}
use Rattle.dumpi_calls.specs.declared.walking.Walked.{Walked}
use Rattle.run_files.specs.Manifests.{PieceParts}
use Rattle.text_notes.specs.Noted.{TellsNotes, UnreadParts}
use Rattle.text_notes.specs.Words.{NoteParts}
use Rattle.run_inputs.specs.Files.{StandsAtFirst}
use Rattle.command_runs.specs.Notes.{AreNotesOf, IsNoteOf}

pub notes_more : (file : List ℕ → Option (List ℕ)) (pieces : List PieceParts) (piece : PieceParts) (notes : List NoteParts) (note : NoteParts)
    → AreNotesOf file pieces notes → IsNoteOf file piece note → AreNotesOf file (pieces ++ piece ∷ []) (notes ++ note ∷ [])
notes_more file [] piece notes note e is = (note, [], is, refl, ap (λ (l : List NoteParts). l ++ note ∷ []) e)
notes_more file (p ∷ ps) piece notes note h is =
    (h.0, h.1 ++ note ∷ [], h.2, notes_more file ps piece h.1 note h.3 is, ap (λ (l : List NoteParts). l ++ note ∷ []) h.4)

-- what the text of a file tells
pub notes_told : (file left : Option (List ℕ)) (unread : List UnreadParts) (walked : Walked) → StandsAtFirst file left → TellsNotes left unread walked → TellsNotes file unread walked
notes_told None left unread walked told h = tt
notes_told (Some bytes) left unread walked told h = subst (λ (t : Option (List ℕ)). TellsNotes t unread walked) told h
