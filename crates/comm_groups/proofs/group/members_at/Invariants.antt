use Rattle.std.proofs.Common.{◌≡◌, take}
use Rattle.comm_groups.specs.Groups.{members_at}
use Rattle.comm_groups.proofs.group.members_at.Given as goal

abbrev pub invariant-loop-rank : goal.invariant-loop-rank
invariant-loop-rank l = l.members.items ≡ members_at l.group (take l.rank-index l.ranks)
