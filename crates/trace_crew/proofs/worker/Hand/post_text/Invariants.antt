use Rattle.std.proofs.Common.{◌≡◌, map}
use Rattle.crossbeam_channel.specs.Claims.{view, IsSeatAt}
use Rattle.crossbeam_channel.specs.Ends.{sends_on}
use Rattle.trace_crew.specs.Views.{IsPoster, segment_item}
use Rattle.trace_crew.specs.Work.{after_posts, ends_posted}
use Rattle.trace_crew.proofs.worker.Hand.post_text.Given as goal

abbrev pub invariant-loop-segment : goal.invariant-loop-segment
invariant-loop-segment g l = record {
  seat : IsSeatAt (sends_on l.queue) l.self.seat;
  worker : l.self.worker ≡ l.fn.self.worker;
  faults : l.self.faults.items ≡ l.fn.self.faults.items;
  poster : IsPoster l.fn.self.worker (view l.self.seat);
  ends : ends_posted (view l.self.seat) ≡ ends_posted (view l.fn.self.seat);
  posted : view l.self.seat ≡ after_posts (view l.fn.self.seat) (map (segment_item l.fn.self.worker) l.yielded);
}
