use Rattle.std.proofs.Common.{◌≡◌, ◌≤◌, ◌-◌, length, take}
use Rattle.mpi_model.specs.declared.message.Message.{Message}
use Rattle.trace_ops.specs.Order.{Has}
use Rattle.trace_pair.proofs.follow.common_messages.Given as goal

abbrev pub invariant-loop-i : goal.invariant-loop-i
invariant-loop-i l = record {
  first : l.i ≤ length l.a;
  second : l.i ≤ length l.b;
  same : take l.i l.a ≡ take l.i l.b;
  within : (m : Message) → Has (take l.i l.a) m → m.name.call ≤ l.last;
}

abbrev pub decreases-loop-i : goal.decreases-loop-i
decreases-loop-i l = length l.b - l.i
