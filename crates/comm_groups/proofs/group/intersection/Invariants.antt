use Rattle.std.proofs.Common.{◌≡◌, take, filter}
use Rattle.comm_groups.specs.Groups.{has}
use Rattle.comm_groups.proofs.group.intersection.Given as goal

abbrev pub invariant-loop-rank : goal.invariant-loop-rank
invariant-loop-rank l = l.members.items ≡ filter (λ r. has l.second r) (take l.rank-index l.first)
