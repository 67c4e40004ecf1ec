use Rattle.comm_makings.specs.State.{KeepsDerived}
use Rattle.comm_makings.proofs.run.leave_handles.Given as goal

abbrev pub invariant-loop-rank : goal.invariant-loop-rank
invariant-loop-rank l = KeepsDerived l.initial.standings.items l.standings.items
