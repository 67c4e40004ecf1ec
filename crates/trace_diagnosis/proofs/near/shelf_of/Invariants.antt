use Rattle.std.proofs.Common.{take}
use Rattle.trace_diagnosis.specs.Ways.{AreReceives}
use Rattle.trace_diagnosis.proofs.near.shelf_of.Given as goal

abbrev pub invariant-loop-at : goal.invariant-loop-at
invariant-loop-at l = AreReceives l.way (take l.at l.receives) l.shelf
