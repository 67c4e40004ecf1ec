use Rattle.std.proofs.Common.{◌≡◌, ◌≤◌, ◌+◌, [], map, take, drop, reverse, length}
use Rattle.std.specs.Option.{option_map}
use Rattle.trace_ops.specs.Gathered.{IsGathered}
use Rattle.trace_ops.specs.Held.{inits_from, plain_init}
use Rattle.trace_ops.specs.Steps.{steps_from}
use Rattle.trace_ops.proofs.ops.gather.gather_with_inits.Given as goal

abbrev pub decreases-loop-n : goal.decreases-loop-n
decreases-loop-n l = l.n

abbrev pub invariant-loop-n : goal.invariant-loop-n
invariant-loop-n l = record {
  within : l.n ≤ length l.calls;
  few : l.gathered.foreign + l.n ≤ length l.calls;
  left : l.left ≤ length l.holding.inits.items;
  listed : map (option_map plain_init) (take l.left l.holding.inits.items) ≡ inits_from [] (take l.n l.calls);
  gathered : IsGathered l.layout l.rank l.calls (steps_from (reverse (take l.n l.calls)) (drop l.n l.calls)) l.gathered;
}
