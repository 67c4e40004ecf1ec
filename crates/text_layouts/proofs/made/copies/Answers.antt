use Rattle.std.proofs.Common.{arith}
use Rattle.std.proofs.lemmas.Grind.{common_steps}
use Rattle.text_layouts.proofs.made.copies.Goals as goal

pub loop-comm-init : goal.loop-comm-init
loop-comm-init c = grind (arith, common_steps)

pub loop-comm-preserved : goal.loop-comm-preserved
loop-comm-preserved c = grind (arith, common_steps)

pub returns : goal.returns
returns c = grind (arith, common_steps)
