use Rattle.std.proofs.Common.{◌≡◌, take}
use Rattle.std.specs.Prelude.{ℤ, is_some}
use Rattle.std.specs.Ordering.{int_eq}
use Rattle.indexmap.specs.IndexMap.{get}
use Rattle.trace_ops.specs.Active.{is_active}
use Rattle.trace_ops.proofs.active.numbers_of.Given as goal

abbrev pub invariant-loop-request : goal.invariant-loop-request
invariant-loop-request l = (x : ℤ) → is_some (get int_eq l.numbers x) ≡ is_active (take l.request-index l.active) x
