use Rattle.std.proofs.Common.{arith}
use Rattle.std.proofs.lemmas.Grind.{common_steps}
use Rattle.comm_makings.proofs.names.read_all.Goals as goal

pub loop-at-init : goal.loop-at-init
loop-at-init c = grind (arith, common_steps)

pub loop-at-preserved : goal.loop-at-preserved
loop-at-preserved c = grind (arith, common_steps)

pub returns-clause-meant : goal.returns-clause-meant
returns-clause-meant c = grind (arith, common_steps)

pub returns-clause-naming : goal.returns-clause-naming
returns-clause-naming c = grind (arith, common_steps)
