use Rattle.std.proofs.Common.{◌≡◌, ◌≤◌, ◌-◌, length, take}
use Rattle.mpi_model.specs.declared.message.Receive.{Receive}
use Rattle.trace_ops.specs.Order.{Has}
use Rattle.trace_pair.specs.Fronts.{IsEndedBy}
use Rattle.trace_pair.proofs.follow.common_receives.Given as goal

abbrev pub invariant-loop-i : goal.invariant-loop-i
invariant-loop-i l = record {
  first : l.i ≤ length l.a;
  second : l.i ≤ length l.b;
  same : take l.i l.a ≡ take l.i l.b;
  within : (q : Receive) → Has (take l.i l.a) q → IsEndedBy q l.last;
}

abbrev pub decreases-loop-i : goal.decreases-loop-i
decreases-loop-i l = length l.b - l.i
