use Rattle.std.proofs.Common.{◌≡◌, map, take, length}
use Rattle.trace_node.specs.Stopped.{stopped}
use Rattle.trace_node.proofs.answer.same.are_same_stuck.Given as goal

abbrev pub invariant-loop-i : goal.invariant-loop-i
invariant-loop-i l = (length l.first ≡ length l.second) × (map stopped (take l.i l.first) ≡ map stopped (take l.i l.second))
