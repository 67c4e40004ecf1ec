use Rattle.std.proofs.Common.{◌≡◌, ◌≤◌, ◌++◌, ◌-◌, drop, length, option_map}
use Rattle.comm_calls.specs.Lists.{ranges_of}
use Rattle.comm_calls.proofs.lists.ranges_of.Given as goal

abbrev pub invariant-loop-at : goal.invariant-loop-at
invariant-loop-at l = record {
  within : l.at ≤ length l.ints;
  rest : option_map (λ rs. l.ranges.items ++ rs) (ranges_of (drop l.at l.ints)) ≡ ranges_of l.ints;
}

abbrev pub decreases-loop-at : goal.decreases-loop-at
decreases-loop-at l = length l.ints - l.at
