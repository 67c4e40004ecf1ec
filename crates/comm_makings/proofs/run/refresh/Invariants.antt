use Rattle.comm_makings.specs.State.{AreDerivedGroups}
use Rattle.comm_makings.proofs.run.refresh.Given as goal

abbrev pub invariant-loop-at : goal.invariant-loop-at
invariant-loop-at l = AreDerivedGroups l.ranks l.views l.made.comms.now l.rank l.values.items
