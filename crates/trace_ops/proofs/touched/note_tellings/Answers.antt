use Rattle.std.proofs.Common.{◌-◌, arith}
use Rattle.trace_ops.specs.Called.{places_by}
use Rattle.trace_ops.proofs.Placing.{tellings_step}
use Rattle.trace_ops.specs.Tables.{kept_of}
use Rattle.trace_ops.proofs.touched.note_tellings.Goals as goal

pub loop-place-preserved : goal.loop-place-preserved
loop-place-preserved c = record {
  within = omega arith;
  kept = λ x. tellings_step (places_by c.args.called.now) c.args.call (c.loop-place.place - 1) c.loop-place.place x c.completed_at.result
      (kept_of c.note_telling.new.touched x) (kept_of c.loop-place.touched x) (kept_of c.args.touched.now x) c.completed_at.ensures (omega arith)
      (c.in_ok-note_telling.ensures x) (c.loop-place.invariant.kept x);
}
