use Rattle.std.proofs.Common.{arith}
use Rattle.std.proofs.lemmas.Grind.{common_steps}
use Rattle.trace_diagnosis.proofs.unmatched.unfinished_in.Goals as goal

pub loop-own-init : goal.loop-own-init
loop-own-init c = grind (arith, common_steps)

pub loop-own-preserved : goal.loop-own-preserved
loop-own-preserved c = grind (arith, common_steps)

pub returns : goal.returns
returns c = grind (arith, common_steps)
