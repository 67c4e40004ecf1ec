use Rattle.std.proofs.Common.{arith}
use Rattle.comm_makings.proofs.Right.{stands_set}
use Rattle.comm_makings.proofs.run.leave_others.Goals as goal

pub loop-at-preserved : goal.loop-at-preserved
loop-at-preserved c = grind (arith, stands_set)
