use Rattle.comm_makings.specs.State.{IsRun}
use Rattle.comm_makings.proofs.run.Run.read_merges.Given as goal

abbrev pub invariant-loop-k : goal.invariant-loop-k
invariant-loop-k l = IsRun l.ranks l.views l.self
