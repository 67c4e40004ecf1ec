use Rattle.std.proofs.Common.{◌≡◌, take}
use Rattle.text_notes.specs.Words.{totals_of}
use Rattle.text_notes.proofs.totals.totals_of.Given as goal

abbrev pub invariant-loop-note : goal.invariant-loop-note
invariant-loop-note l = l.totals ≡ totals_of (take l.note-index l.notes)
