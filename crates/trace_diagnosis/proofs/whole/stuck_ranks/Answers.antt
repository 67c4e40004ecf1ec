use Rattle.std.proofs.Common.{arith}
use Rattle.std.proofs.lemmas.Grind.{common_steps}
use Rattle.trace_diagnosis.proofs.whole.stuck_ranks.Goals as goal

pub loop-stuck-init : goal.loop-stuck-init
loop-stuck-init c = grind (arith, common_steps)

pub loop-stuck-preserved : goal.loop-stuck-preserved
loop-stuck-preserved c = grind (arith, common_steps)

pub returns : goal.returns
returns c = grind (arith, common_steps)
