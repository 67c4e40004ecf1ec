use Rattle.std.proofs.Common.{◌≡◌}
use Rattle.comm_makings.specs.Derives.{world_members}
use Rattle.comm_makings.proofs.run.world_members.Given as goal

abbrev pub invariant-loop-rank : goal.invariant-loop-rank
invariant-loop-rank l = l.members.items ≡ world_members l.rank
