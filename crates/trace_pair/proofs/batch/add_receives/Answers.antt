use Rattle.std.proofs.Common.{[], arith, take}
use Rattle.trace_pair.specs.Calls.{between}
use Rattle.trace_pair.proofs.Posts.{adds_range}
use Rattle.trace_pair.proofs.Settling.{first_apart}
use Rattle.trace_pair.proofs.batch.add_receives.Goals as goal

pub loop-next-preserved : goal.loop-next-preserved
loop-next-preserved c =
    let own = c.args.own.now in
    let next = c.loop-next.next in
    let end = c.end_of_receives-end.result in
    let w = c.loop-next.invariant in
    let e = c.end_of_receives-end.ensures in
    record {
      high = e.bound;
      whole = e.whole;
      settled = λ ms before p apart s.
          c.in_ok-add_call.ensures ms (between before (take next own) []) (between before (take end own) []) (adds_range before [] own next end (omega (arith, e.behind)) p e.one (w.whole p.order)) (first_apart before own end apart) (w.settled ms before p apart s);
    }
