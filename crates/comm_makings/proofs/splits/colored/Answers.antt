use Rattle.std.proofs.Common.{arith}
use Rattle.std.proofs.lemmas.Grind.{common_steps}
use Rattle.comm_makings.proofs.splits.colored.Goals as goal

pub loop-here-init : goal.loop-here-init
loop-here-init c = grind (arith, common_steps)

pub loop-here-preserved : goal.loop-here-preserved
loop-here-preserved c = grind (arith, common_steps)

pub returns : goal.returns
returns c = grind (arith, common_steps)
