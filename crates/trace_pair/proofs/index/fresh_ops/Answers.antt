use Rattle.std.proofs.Common.{arith}
use Rattle.std.proofs.lemmas.Grind.{common_steps}
use Rattle.trace_pair.proofs.index.fresh_ops.Goals as goal

pub loop-init : goal.loop-init
loop-init c = grind (arith, common_steps)

pub loop-preserved : goal.loop-preserved
loop-preserved c = grind (arith, common_steps)

pub returns : goal.returns
returns c = grind (arith, common_steps)
