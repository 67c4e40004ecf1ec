use Rattle.std.proofs.Common.{arith}
use Rattle.std.proofs.lemmas.Grind.{common_steps}
use Rattle.trace_ops.proofs.active.numbers_of.Goals as goal

pub loop-request-init : goal.loop-request-init
loop-request-init c = grind (arith, common_steps)

pub loop-request-preserved : goal.loop-request-preserved
loop-request-preserved c = grind (arith, common_steps)

pub returns : goal.returns
returns c = grind (arith, common_steps)
