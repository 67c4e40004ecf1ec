use Rattle.std.proofs.Common.{arith}
use Rattle.std.proofs.lemmas.Grind.{common_steps, elements}
use Rattle.trace_diagnosis.proofs.roots.flags_with.Goals as goal

pub loop-node-init : goal.loop-node-init
loop-node-init c = grind (arith, common_steps)

pub returns-clause-len : goal.returns-clause-len
returns-clause-len c = grind (arith, common_steps)

pub returns-clause-flags : goal.returns-clause-flags
returns-clause-flags c = grind (arith, common_steps)

pub loop-node-preserved : goal.loop-node-preserved
loop-node-preserved c = grind (arith, elements)
