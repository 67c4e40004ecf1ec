use Rattle.std.proofs.Common.{◌≡◌, ◌-◌, drop, length}
use Rattle.trace_ops.specs.Called.{places_by}
use Rattle.trace_ops.specs.Places.{completed_in}
use Rattle.trace_ops.specs.Source.{told_in}
use Rattle.trace_ops.proofs.fate.told_in.Given as goal

abbrev pub decreases-loop-place : goal.decreases-loop-place
decreases-loop-place l = length (places_by l.called) - l.place

abbrev pub invariant-loop-place : goal.invariant-loop-place
invariant-loop-place l = told_in l.members l.x (completed_in (drop l.place (places_by l.called))) ≡ told_in l.members l.x (completed_in (drop l.first (places_by l.called)))
