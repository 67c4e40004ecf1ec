use Rattle.std.proofs.Common.{arith}
use Rattle.std.proofs.lemmas.Grind.{common_steps}
use Rattle.comm_makings.proofs.uses.numbered.Goals as goal

pub loop-handle-init : goal.loop-handle-init
loop-handle-init c = grind (arith, common_steps)

pub loop-handle-preserved : goal.loop-handle-preserved
loop-handle-preserved c = grind (arith, common_steps)

pub returns : goal.returns
returns c = grind (arith, common_steps)
