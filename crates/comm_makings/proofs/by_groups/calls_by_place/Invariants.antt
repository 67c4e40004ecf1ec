use Rattle.comm_makings.specs.ByGroups.{AreOfCalls}
use Rattle.comm_makings.proofs.by_groups.calls_by_place.Given as goal

abbrev pub invariant-loop-offer : goal.invariant-loop-offer
invariant-loop-offer l = AreOfCalls l.calls l.all.items
