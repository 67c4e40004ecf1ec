use Rattle.std.proofs.Common.{◌≡◌, take}
use Rattle.std.specs.Prelude.{ℤ}
use Rattle.std.specs.List.{list_any}
use Rattle.std.specs.Ordering.{int_eq}
use Rattle.indexmap.specs.IndexSet.{contains}
use Rattle.trace_wait.proofs.active.set_of.Given as goal

abbrev pub invariant-loop-number : goal.invariant-loop-number
invariant-loop-number l = (x : ℤ) → contains int_eq l.set x ≡ list_any (λ y. int_eq y x) (take l.number-index l.numbers)
