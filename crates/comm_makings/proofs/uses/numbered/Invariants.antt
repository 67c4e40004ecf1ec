use Rattle.std.proofs.Common.{◌≡◌, ℕ, nat_eq, take, unwrap_or}
use Rattle.indexmap.specs.IndexMap.{get}
use Rattle.comm_makings.specs.Uses.{numbered}
use Rattle.comm_makings.proofs.uses.numbered.Given as goal

abbrev pub invariant-loop-handle : goal.invariant-loop-handle
invariant-loop-handle l = (m : ℕ) → unwrap_or (get nat_eq l.counts m) 0 ≡ numbered (take l.handle-index l.handles) m
