use Rattle.comm_makings.specs.State.{KeepsDerived}
use Rattle.comm_makings.proofs.run.leave.Given as goal

abbrev pub invariant-loop-here : goal.invariant-loop-here
invariant-loop-here l = KeepsDerived l.initial.standings.items l.standings.items
