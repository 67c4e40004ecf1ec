use Rattle.comm_makings.specs.State.{IsReadTo, IsRun}
use Rattle.comm_makings.proofs.run.Run.advance.Given as goal

abbrev pub invariant-loop-k : goal.invariant-loop-k
invariant-loop-k l = record {
  right : IsRun l.ranks l.views l.self;
  read : IsReadTo l.ranks l.views l.self.comms.items l.at l.k;
}
