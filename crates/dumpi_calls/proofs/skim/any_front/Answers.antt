use Rattle.std.proofs.Common.{arith}
use Rattle.std.proofs.lemmas.Grind.{common_steps}
use Rattle.dumpi_calls.proofs.FieldByField.{one_more, the_last}
use Rattle.dumpi_calls.proofs.skim.any_front.Goals as goal

pub loop-init : goal.loop-init
loop-init c = grind (arith, common_steps)

pub loop-preserved : goal.loop-preserved
loop-preserved c = grind (arith, one_more, the_last)
