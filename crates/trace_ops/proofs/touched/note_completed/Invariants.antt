use Rattle.std.proofs.Common.{◌≡◌, ◌≤◌, drop, length}
use Rattle.std.specs.Prelude.{ℤ, Some, if◌then◌else◌}
use Rattle.std.specs.List.{list_any}
use Rattle.trace_ops.specs.Called.{places_by}
use Rattle.trace_ops.specs.Touched.{ends_at, is_completed_at}
use Rattle.trace_ops.specs.Tables.{kept_of}
use Rattle.trace_ops.proofs.touched.note_completed.Given as goal

abbrev pub decreases-loop-place : goal.decreases-loop-place
decreases-loop-place l = l.place

abbrev pub invariant-loop-place : goal.invariant-loop-place
invariant-loop-place l = record {
  within : l.place ≤ length (places_by l.called);
  kept : (x : ℤ) → kept_of l.touched x ≡
      (if list_any (is_completed_at x) (drop l.place (places_by l.called)) then Some (ends_at l.call (length (places_by l.called))) else kept_of l.initial.touched x);
}
