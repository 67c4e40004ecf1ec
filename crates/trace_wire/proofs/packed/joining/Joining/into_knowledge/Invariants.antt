use Rattle.std.proofs.Common.{◌≡◌, length}
use Rattle.trace_know.specs.View.{join}
use Rattle.trace_wire.specs.Joining.{joined}
use Rattle.trace_wire.proofs.packed.joining.Joining.into_knowledge.Given as goal

abbrev pub invariant-loop-below : goal.invariant-loop-below
invariant-loop-below l = join (joined l.levels.items) l.top.know ≡ join (joined l.initial.levels.items) l.initial.top.know

abbrev pub decreases-loop-below : goal.decreases-loop-below
decreases-loop-below l = length l.levels.items
