use Rattle.std.proofs.Common.{arith}
use Rattle.std.proofs.lemmas.Grind.{common_steps, elements}
use Rattle.trace_stuck.proofs.release.free_flags.Goals as goal

pub loop-s-init : goal.loop-s-init
loop-s-init c = grind (arith, common_steps)

pub returns-clause-flags : goal.returns-clause-flags
returns-clause-flags c = grind (arith, common_steps)

pub returns-clause-len : goal.returns-clause-len
returns-clause-len c = grind (arith, common_steps)

pub loop-s-preserved : goal.loop-s-preserved
loop-s-preserved c = grind (arith, elements)
