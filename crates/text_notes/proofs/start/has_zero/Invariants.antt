use Rattle.std.proofs.Common.{◌≡◌, false, take}
use Rattle.text_notes.specs.Starts.{has_zero}
use Rattle.text_notes.proofs.start.has_zero.Given as goal

abbrev pub invariant-loop-byte : goal.invariant-loop-byte
invariant-loop-byte l = has_zero (take l.byte-index l.front) ≡ false
