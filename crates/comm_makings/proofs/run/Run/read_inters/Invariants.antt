use Rattle.comm_makings.specs.State.{IsRun}
use Rattle.comm_makings.proofs.run.Run.read_inters.Given as goal

abbrev pub invariant-loop-at : goal.invariant-loop-at
invariant-loop-at l = IsRun l.ranks l.views l.self
