use Rattle.std.proofs.Common.{arith}
use Rattle.std.proofs.lemmas.Grind.{common_steps}
use Rattle.dumpi_calls.proofs.Tolds.{one_told_more}
use Rattle.dumpi_calls.proofs.outcome.tolds.Goals as goal

pub loop-place-preserved : goal.loop-place-preserved
loop-place-preserved c = grind (arith, one_told_more)

pub loop-place-init : goal.loop-place-init
loop-place-init c = grind (arith, common_steps)

pub returns : goal.returns
returns c = grind (arith, common_steps)
