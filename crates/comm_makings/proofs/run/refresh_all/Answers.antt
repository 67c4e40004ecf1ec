use Rattle.std.proofs.Common.{arith}
use Rattle.std.proofs.lemmas.Grind.{common_steps}
use Rattle.comm_makings.proofs.Values.{members_in, groups_at, groups_set}
use Rattle.comm_makings.proofs.run.refresh_all.Goals as goal

pub loop-rank-init : goal.loop-rank-init
loop-rank-init c = grind (arith, common_steps, members_in, groups_at, groups_set)

pub returns : goal.returns
returns c = grind (arith, common_steps, members_in, groups_at, groups_set)
