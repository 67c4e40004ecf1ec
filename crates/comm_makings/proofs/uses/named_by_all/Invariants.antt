use Rattle.comm_makings.proofs.Holders.{AreCountedTo}
use Rattle.comm_makings.proofs.uses.named_by_all.Given as goal

abbrev pub invariant-loop-at : goal.invariant-loop-at
invariant-loop-at l = AreCountedTo l.object l.ranks l.views l.all.items l.at
