use Rattle.std.proofs.Common.{◌≡◌, ◌++◌, List, drop}
use Rattle.std.specs.Ordering.{int_eq}
use Rattle.indexmap.specs.IndexMap.{get}
use Rattle.trace_ops.specs.Active.{held_of}
use Rattle.trace_ops.specs.Calls.{Entry}
use Rattle.trace_ops.specs.Held.{Holds}
use Rattle.trace_ops.proofs.active.held_of.Given as goal

abbrev pub invariant-loop-n : goal.invariant-loop-n
invariant-loop-n l = (all : List Entry) → Holds all (get int_eq l.held) → l.numbers.items ++ held_of all l.n (drop l.n l.calls) ≡ held_of all 0 l.calls
