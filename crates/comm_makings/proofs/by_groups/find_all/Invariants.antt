use Rattle.std.proofs.Common.{◌-◌, length}
use Rattle.comm_makings.specs.ByGroups.{AreFound}
use Rattle.comm_makings.proofs.by_groups.find_all.Given as goal

abbrev pub decreases-loop-at : goal.decreases-loop-at
decreases-loop-at l = length l.calls - l.at

abbrev pub invariant-loop-at : goal.invariant-loop-at
invariant-loop-at l = AreFound l.calls l.parent.members.items l.parent.ranks.items l.found.made.items
