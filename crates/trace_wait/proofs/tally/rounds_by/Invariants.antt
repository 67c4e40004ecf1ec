use Rattle.std.proofs.Common.{◌≡◌, ◌≤◌, ◌-◌, length, take}
use Rattle.std.specs.List.{flat_map}
use Rattle.trace_wait.specs.Rounds.{rounds_on}
use Rattle.trace_wait.proofs.tally.rounds_by.Given as goal

abbrev pub invariant-loop-comm : goal.invariant-loop-comm
invariant-loop-comm l = record {
  within : l.i ≤ length l.layout.comms;
  out : l.out.items ≡ flat_map (λ g. rounds_on l.layout.comms l.entries g.comm) (take l.i l.layout.comms);
}

abbrev pub decreases-loop-comm : goal.decreases-loop-comm
decreases-loop-comm l = length l.layout.comms - l.i
