use Rattle.std.proofs.Common.{arith}
use Rattle.std.proofs.lemmas.Grind.{common_steps}
use Rattle.trace_diagnosis.proofs.holding.push_all.Goals as goal

pub loop-rank-init : goal.loop-rank-init
loop-rank-init c = grind (arith, common_steps)

pub loop-rank-preserved : goal.loop-rank-preserved
loop-rank-preserved c = grind (arith, common_steps)

pub returns : goal.returns
returns c = grind (arith, common_steps)
