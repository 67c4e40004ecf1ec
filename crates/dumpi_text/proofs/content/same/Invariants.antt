use Rattle.std.proofs.Common.{◌≡◌, drop}
use Rattle.dumpi_text.specs.Call.{same_bytes}
use Rattle.dumpi_text.proofs.content.same.Given as goal

abbrev pub invariant-loop-at : goal.invariant-loop-at
invariant-loop-at l = same_bytes (drop l.at l.a) (drop l.at l.b) ≡ same_bytes l.a l.b
