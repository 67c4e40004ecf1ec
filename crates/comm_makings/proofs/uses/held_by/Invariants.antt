use Rattle.std.proofs.Common.{take}
use Rattle.comm_makings.specs.Uses.{AreHeld}
use Rattle.comm_makings.proofs.uses.held_by.Given as goal

abbrev pub invariant-loop-named : goal.invariant-loop-named
invariant-loop-named l = AreHeld l.handles (take l.named-index l.uses) l.held.items
