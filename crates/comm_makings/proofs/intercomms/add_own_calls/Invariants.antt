use Rattle.std.proofs.Common.{◌≡◌, length}
use Rattle.comm_makings.specs.Intercomms.{AreOwnCalls}
use Rattle.comm_makings.proofs.intercomms.add_own_calls.Given as goal

abbrev pub invariant-loop-member : goal.invariant-loop-member
invariant-loop-member l = record {
  calls : AreOwnCalls l.ranks l.views l.members l.all.items;
  counted : length l.all.items ≡ l.member-index;
}
