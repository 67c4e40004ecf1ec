use Rattle.std.proofs.Common.{◌≡◌, take}
use Rattle.comm_makings.specs.Uses.{but_ends}
use Rattle.comm_makings.proofs.uses.but_ends.Given as goal

abbrev pub invariant-loop-group : goal.invariant-loop-group
invariant-loop-group l = l.uses.items ≡ but_ends l.handles (take l.group-index l.held)
