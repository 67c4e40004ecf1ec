use Rattle.std.proofs.Common.{◌≡◌, take, length}
use Rattle.trace_node.proofs.answer.same.are_same_rounds.Given as goal

abbrev pub invariant-loop-i : goal.invariant-loop-i
invariant-loop-i l = (length l.first ≡ length l.second) × (take l.i l.first ≡ take l.i l.second)
