use Rattle.std.proofs.Common.{◌≡◌, None, take}
use Rattle.text_notes.specs.Words.{note_of}
use Rattle.text_notes.proofs.note.note_of.Given as goal

abbrev pub invariant-loop-at : goal.invariant-loop-at
invariant-loop-at l = note_of l.rank l.call (take l.at l.notes) ≡ None
