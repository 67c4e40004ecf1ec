use Rattle.comm_makings.specs.State.{IsRun}
use Rattle.comm_makings.proofs.run.Run.derive_all.Given as goal

abbrev pub invariant-loop : goal.invariant-loop
invariant-loop l = IsRun l.ranks l.views l.self
