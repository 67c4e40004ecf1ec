use Rattle.std.proofs.Common.{◌≡◌, ◌≤◌, ◌-◌, ◌++◌, [], map, take, drop, reverse, length}
use Rattle.std.specs.Option.{option_map}
use Rattle.std.specs.Ordering.{int_eq}
use Rattle.indexmap.specs.IndexMap.{get}
use Rattle.trace_ops.specs.Held.{Holds, inits_from, plain_init}
use Rattle.trace_ops.proofs.held.holding_of.Given as goal

abbrev pub decreases-loop-n : goal.decreases-loop-n
decreases-loop-n l = length l.calls - l.n

abbrev pub invariant-loop-n : goal.invariant-loop-n
invariant-loop-n l = record {
  within : l.n ≤ length l.calls;
  listed : map (option_map plain_init) l.inits.items ++ inits_from (reverse (take l.n l.calls)) (drop l.n l.calls) ≡ inits_from [] l.calls;
  held : Holds (reverse (take l.n l.calls)) (get int_eq l.held);
}
