use Rattle.std.proofs.Common.{◌≡◌, drop}
use Rattle.dumpi_text.specs.Words.{split_at}
use Rattle.comm_calls.proofs.parameter.behind.Given as goal

abbrev pub invariant-loop-at : goal.invariant-loop-at
invariant-loop-at l = (split_at l.stop (drop l.at l.text)).1 ≡ (split_at l.stop l.text).1
