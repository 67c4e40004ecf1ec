use Rattle.comm_makings.specs.State.{KeepsDerived}
use Rattle.comm_makings.proofs.run.leave_behind.Given as goal

abbrev pub invariant-loop-k : goal.invariant-loop-k
invariant-loop-k l = KeepsDerived l.initial.standings.items l.standings.items
