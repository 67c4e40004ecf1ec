use Rattle.std.proofs.Common.{arith}
use Rattle.std.proofs.lemmas.Grind.{common_steps}
use Rattle.trace_pair.proofs.sends.add_sends.Goals as goal

pub loop-m-init : goal.loop-m-init
loop-m-init c = grind (arith, common_steps)

pub loop-m-preserved : goal.loop-m-preserved
loop-m-preserved c = grind (arith, common_steps)

pub returns : goal.returns
returns c = grind (arith, common_steps)
