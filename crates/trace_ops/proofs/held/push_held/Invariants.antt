use Rattle.std.proofs.Common.{◌≡◌, ◌++◌, map, take}
use Rattle.std.specs.Ordering.{int_eq}
use Rattle.indexmap.specs.IndexMap.{get}
use Rattle.trace_ops.proofs.held.push_held.Given as goal

abbrev pub invariant-loop-request : goal.invariant-loop-request
invariant-loop-request l = l.inits.items ≡ l.initial.inits.items ++ map (get int_eq l.held) (take l.request-index l.requests)
