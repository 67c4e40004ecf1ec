use Rattle.comm_makings.specs.State.{IsRun, KeepsComms}
use Rattle.comm_makings.proofs.run.Run.add.Given as goal

abbrev pub invariant-loop-comm : goal.invariant-loop-comm
invariant-loop-comm l = record {
  right : IsRun l.ranks l.views l.self;
  keeps : KeepsComms l.initial.self.comms.items l.self.comms.items;
}
