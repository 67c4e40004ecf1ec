use Rattle.std.proofs.Common.{◌≡◌, ℕ, take, false}
use Rattle.std.specs.Ordering.{nat_cmp}
use Rattle.std.specs.BTreeSet.{contains}
use Rattle.comm_groups.specs.Groups.{has, has_double}
use Rattle.comm_groups.proofs.group.has_double.Given as goal

abbrev pub invariant-loop-rank : goal.invariant-loop-rank
invariant-loop-rank l = record {
  seen : (q : ℕ) → contains nat_cmp l.set q ≡ has (take l.rank-index l.ranks) q;
  single : has_double (take l.rank-index l.ranks) ≡ false;
}
