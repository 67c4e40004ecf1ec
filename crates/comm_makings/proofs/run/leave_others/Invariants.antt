use Rattle.comm_makings.specs.State.{NoneStands}
use Rattle.comm_makings.proofs.run.leave_others.Given as goal

abbrev pub invariant-loop-at : goal.invariant-loop-at
invariant-loop-at l = NoneStands l.standings.items
