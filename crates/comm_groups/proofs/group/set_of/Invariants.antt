use Rattle.std.proofs.Common.{◌≡◌, ℕ, take}
use Rattle.std.specs.Ordering.{nat_cmp}
use Rattle.std.specs.BTreeSet.{contains}
use Rattle.comm_groups.specs.Groups.{has}
use Rattle.comm_groups.proofs.group.set_of.Given as goal

abbrev pub invariant-loop-rank : goal.invariant-loop-rank
invariant-loop-rank l = (q : ℕ) → contains nat_cmp l.set q ≡ has (take l.rank-index l.ranks) q
