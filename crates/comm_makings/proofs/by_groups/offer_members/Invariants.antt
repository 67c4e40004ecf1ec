use Rattle.comm_makings.specs.ByGroups.{AreRightOffers}
use Rattle.comm_makings.proofs.by_groups.offer_members.Given as goal

abbrev pub invariant-loop-at : goal.invariant-loop-at
invariant-loop-at l = AreRightOffers l.ranks l.views l.run.values.items l.run.comms.items l.members l.calls.items
