use Rattle.std.proofs.Common.{◌≡◌, ℕ, is_some, nat_eq, take}
use Rattle.indexmap.specs.IndexMap.{get}
use Rattle.comm_makings.specs.Uses.{is_stray}
use Rattle.comm_makings.proofs.uses.strays_of.Given as goal

abbrev pub invariant-loop-group : goal.invariant-loop-group
invariant-loop-group l = (m : ℕ) → is_some (get nat_eq l.strays m) ≡ is_stray (take l.group-index l.held) m
