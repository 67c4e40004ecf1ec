use Rattle.std.proofs.Common.{◌≡◌, take}
use Rattle.crossbeam_channel.specs.Claims.{view, IsSeatAt}
use Rattle.crossbeam_channel.specs.Ends.{sends_on}
use Rattle.trace_crew.specs.Views.{IsPoster}
use Rattle.trace_crew.specs.Work.{HasRead, ends_posted}
use Rattle.trace_crew.proofs.worker.Hand.read_all.Given as goal

abbrev pub invariant-loop-place : goal.invariant-loop-place
invariant-loop-place g l = record {
  seat : IsSeatAt (sends_on l.queue) l.self.seat;
  worker : l.self.worker ≡ l.fn.self.worker;
  poster : IsPoster l.fn.self.worker (view l.self.seat);
  ends : ends_posted (view l.self.seat) ≡ 0;
  read : HasRead l.fn.self.worker (take l.place l.pieces) (view l.self.seat) l.self.faults.items;
}
