use Rattle.std.proofs.Common.{◌≡◌, map, take}
use Rattle.trace_node.specs.Stopped.{stopped}
use Rattle.trace_node.proofs.answer.parts.copies_of.Given as goal

abbrev pub invariant-loop-s : goal.invariant-loop-s
invariant-loop-s l = map stopped l.copies.items ≡ map stopped (take l.s-index l.stuck)
