use Rattle.std.proofs.Common.{◌≡◌, ◌≤◌, drop, length}
use Rattle.std.specs.Prelude.{ℤ}
use Rattle.trace_ops.specs.Called.{places_by}
use Rattle.trace_ops.specs.Touched.{with_tellings}
use Rattle.trace_ops.specs.Tables.{kept_of}
use Rattle.trace_ops.proofs.touched.note_tellings.Given as goal

abbrev pub decreases-loop-place : goal.decreases-loop-place
decreases-loop-place l = l.place

abbrev pub invariant-loop-place : goal.invariant-loop-place
invariant-loop-place l = record {
  within : l.place ≤ length (places_by l.called);
  kept : (x : ℤ) → kept_of l.touched x ≡ with_tellings l.call l.place (drop l.place (places_by l.called)) x (kept_of l.initial.touched x);
}
