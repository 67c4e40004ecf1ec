use Rattle.std.proofs.Common.{◌≡◌, ◌≤◌, ◌-◌, length, take}
use Rattle.trace_wait.specs.Calls.{table}
use Rattle.trace_wait.proofs.counts.all_calls.Given as goal

abbrev pub invariant-loop-comm : goal.invariant-loop-comm
invariant-loop-comm l = record {
  within : l.i ≤ length l.layout.comms;
  rows : l.rows.items ≡ table l.layout.comms l.entries (take l.i l.layout.comms);
}

abbrev pub decreases-loop-comm : goal.decreases-loop-comm
decreases-loop-comm l = length l.layout.comms - l.i
