use Rattle.std.proofs.Common.{◌≡◌, map, take}
use Rattle.comm_makings.specs.Uses.{stands_alone}
use Rattle.comm_makings.proofs.uses.only_of.Given as goal

abbrev pub invariant-loop-handle : goal.invariant-loop-handle
invariant-loop-handle l = l.only.items ≡ map (stands_alone l.handles l.held) (take l.handle-index l.handles)
