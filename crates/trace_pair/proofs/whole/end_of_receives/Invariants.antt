use Rattle.std.proofs.Common.{◌≡◌, ◌<◌, ◌≤◌, ◌-◌, length}
use Rattle.std.specs.Prelude.{slice_range}
use Rattle.mpi_model.specs.declared.message.Receive.{Receive}
use Rattle.trace_ops.specs.Order.{Has}
use Rattle.trace_pair.proofs.whole.end_of_receives.Given as goal

abbrev pub invariant-loop-end : goal.invariant-loop-end
invariant-loop-end l = record {
  low : l.start < l.end;
  high : l.end ≤ length l.calls;
  one : (q : Receive) → Has (slice_range l.calls l.start l.end) q → q.name.call ≡ l.call;
}

abbrev pub decreases-loop-end : goal.decreases-loop-end
decreases-loop-end l = length l.calls - l.end
