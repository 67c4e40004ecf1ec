use Rattle.std.proofs.Common.{◌≡◌, drop}
use Rattle.trace_ops.specs.Called.{places_by}
use Rattle.trace_ops.specs.Touched.{is_any_cancelled}
use Rattle.trace_ops.proofs.touched.is_any_cancelled.Given as goal

abbrev pub invariant-loop-place : goal.invariant-loop-place
invariant-loop-place l = is_any_cancelled (drop l.place (places_by l.called)) ≡ is_any_cancelled (places_by l.called)
