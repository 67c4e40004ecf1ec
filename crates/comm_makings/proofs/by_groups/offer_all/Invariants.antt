use Rattle.std.proofs.Common.{◌≡◌, length}
use Rattle.comm_makings.specs.ByGroups.{AreOwn}
use Rattle.comm_makings.proofs.by_groups.offer_all.Given as goal

abbrev pub invariant-loop-at : goal.invariant-loop-at
invariant-loop-at l = record {
  many : length l.own.items ≡ l.at-index;
  are : AreOwn l.ranks l.views l.run.values.items l.run.comms.items l.member l.place l.own.items;
}
