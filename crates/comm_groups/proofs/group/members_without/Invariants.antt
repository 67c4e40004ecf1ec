use Rattle.std.proofs.Common.{◌≡◌}
use Rattle.comm_groups.specs.Groups.{members_at, ranks_without}
use Rattle.comm_groups.proofs.group.members_without.Given as goal

abbrev pub invariant-loop-i : goal.invariant-loop-i
invariant-loop-i l = l.members.items ≡ members_at l.group (ranks_without l.i l.ranks)
