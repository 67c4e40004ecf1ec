use Rattle.std.proofs.Common.{ℕ, ◌-◌, ◌∙◌, ap, length, arith}
use Rattle.std.specs.Prelude.{Some, if◌then◌else◌}
use Rattle.trace_ops.specs.Called.{places_by}
use Rattle.trace_ops.specs.Touched.{ends_at, is_completed_at}
use Rattle.trace_ops.proofs.Placing.{ends_step}
use Rattle.trace_ops.specs.Tables.{kept_of}
use Rattle.trace_ops.proofs.touched.note_completed.Goals as goal

pub loop-place-preserved : goal.loop-place-preserved
loop-place-preserved c = record {
  within = omega arith;
  kept = λ x. ends_step (places_by c.args.called.now) c.args.call (c.loop-place.place - 1) c.loop-place.place x c.completed_at.result
      (kept_of c.note_end.new.touched x) (kept_of c.loop-place.touched x) (kept_of c.args.touched.now x) c.completed_at.ensures (omega arith) (Some (ends_at c.args.call (length (places_by c.args.called.now))))
      (c.in_ok-note_end.ensures x ∙ ap (λ (m : ℕ). if is_completed_at x c.completed_at.result then Some (ends_at c.args.call m) else kept_of c.loop-place.touched x) c.places-count.ensures)
      (c.loop-place.invariant.kept x);
}
