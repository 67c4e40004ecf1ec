use Rattle.std.proofs.Common.{◌≡◌, ◌++◌, take, drop}
use Rattle.dumpi_text.specs.Words.{split_at}
use Rattle.comm_calls.proofs.parameter.before.Given as goal

abbrev pub invariant-loop-at : goal.invariant-loop-at
invariant-loop-at l = take l.at l.text ++ (split_at l.stop (drop l.at l.text)).0 ≡ (split_at l.stop l.text).0
