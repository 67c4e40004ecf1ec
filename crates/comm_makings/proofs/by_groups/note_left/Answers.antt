use Rattle.std.proofs.Common.{arith}
use Rattle.std.proofs.lemmas.Grind.{common_steps}
use Rattle.comm_makings.proofs.by_groups.note_left.Goals as goal

pub loop-offer-init : goal.loop-offer-init
loop-offer-init c = grind (arith, common_steps)

pub loop-offer-preserved : goal.loop-offer-preserved
loop-offer-preserved c = grind (arith, common_steps)

pub returns : goal.returns
returns c = grind (arith, common_steps)
