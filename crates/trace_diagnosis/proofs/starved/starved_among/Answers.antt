use Rattle.std.proofs.Common.{arith}
use Rattle.std.proofs.lemmas.Grind.{common_steps}
use Rattle.trace_diagnosis.proofs.starved.starved_among.Goals as goal

pub loop-q-init : goal.loop-q-init
loop-q-init c = record { found = grind (arith, common_steps); front = c.before-front.ensures.front _ _ }

pub loop-q-preserved : goal.loop-q-preserved
loop-q-preserved c = record { found = grind (arith, common_steps); front = c.in_ok-is_starved.ensures.front }
