use Rattle.comm_makings.specs.State.{IsRun}
use Rattle.comm_makings.proofs.run.Run.read_joins.Given as goal

abbrev pub invariant-loop-i : goal.invariant-loop-i
invariant-loop-i l = IsRun l.ranks l.views l.self
