use Rattle.std.proofs.Common.{arith}
use Rattle.std.proofs.lemmas.Grind.{common_steps, elements}
use Rattle.trace_diagnosis.proofs.graph.edges_of.Goals as goal

pub loop-needs-init : goal.loop-needs-init
loop-needs-init c = grind (arith, common_steps)

pub returns-clause-len : goal.returns-clause-len
returns-clause-len c = grind (arith, common_steps)

pub loop-needs-preserved : goal.loop-needs-preserved
loop-needs-preserved c = grind (arith, elements)

pub returns-clause-edges : goal.returns-clause-edges
returns-clause-edges c = grind (arith, elements)
