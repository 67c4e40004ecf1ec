use Rattle.std.proofs.Common.{arith}
use Rattle.std.proofs.lemmas.Grind.{common_steps}
use Rattle.trace_diagnosis.proofs.conditions.waits_of.Goals as goal

pub loop-condition-init : goal.loop-condition-init
loop-condition-init c = grind (arith, common_steps)

pub loop-condition-preserved : goal.loop-condition-preserved
loop-condition-preserved c = grind (arith, common_steps)

pub returns : goal.returns
returns c = grind (arith, common_steps)
