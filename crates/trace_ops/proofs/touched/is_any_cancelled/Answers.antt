use Rattle.trace_ops.specs.Called.{places_by}
use Rattle.trace_ops.specs.Touched.{is_any_cancelled, is_cancelled_at}
use Rattle.trace_ops.proofs.Placing.{any_found, any_passed}
use Rattle.trace_ops.proofs.touched.is_any_cancelled.Goals as goal

pub returns-then-is_cancelled_at : goal.returns-then-is_cancelled_at
returns-then-is_cancelled_at c =
    any_found is_cancelled_at (places_by c.args.called.now) c.loop-place.place c.completed_at.result (is_any_cancelled (places_by c.args.called.now)) c.completed_at.ensures (cc) c.loop-place.invariant

pub loop-place-preserved : goal.loop-place-preserved
loop-place-preserved c =
    any_passed is_cancelled_at (places_by c.args.called.now) c.loop-place.place c.completed_at.result (is_any_cancelled (places_by c.args.called.now)) c.completed_at.ensures (cc) c.loop-place.invariant
