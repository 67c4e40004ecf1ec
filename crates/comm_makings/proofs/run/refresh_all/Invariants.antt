use Rattle.comm_makings.specs.State.{AreAllDerivedGroups}
use Rattle.comm_makings.proofs.run.refresh_all.Given as goal

abbrev pub invariant-loop-rank : goal.invariant-loop-rank
invariant-loop-rank l = AreAllDerivedGroups l.ranks l.views l.made.comms.now l.values.items
