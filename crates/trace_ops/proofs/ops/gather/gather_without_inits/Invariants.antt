use Rattle.std.proofs.Common.{◌≡◌, ◌≤◌, ◌+◌, take, drop, reverse, length}
use Rattle.trace_ops.specs.Gathered.{IsGathered}
use Rattle.trace_ops.specs.Steps.{steps_from}
use Rattle.trace_ops.proofs.Nothing.{HaveNoInit}
use Rattle.trace_ops.proofs.ops.gather.gather_without_inits.Given as goal

abbrev pub decreases-loop-n : goal.decreases-loop-n
decreases-loop-n l = l.n

abbrev pub invariant-loop-n : goal.invariant-loop-n
invariant-loop-n l = record {
  within : l.n ≤ length l.calls;
  few : l.gathered.foreign + l.n ≤ length l.calls;
  none : HaveNoInit (drop l.n l.calls);
  gathered : IsGathered l.layout l.rank l.calls (steps_from (reverse (take l.n l.calls)) (drop l.n l.calls)) l.gathered;
}
