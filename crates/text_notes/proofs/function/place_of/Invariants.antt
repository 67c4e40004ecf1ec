use Rattle.std.proofs.Common.{◌≡◌, None, take}
use Rattle.text_notes.specs.Places.{place_of}
use Rattle.text_notes.proofs.function.place_of.Given as goal

abbrev pub invariant-loop-at : goal.invariant-loop-at
invariant-loop-at l = place_of l.name (take l.at l.functions) ≡ None
