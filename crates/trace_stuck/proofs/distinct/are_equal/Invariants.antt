use Rattle.std.proofs.Common.{◌≡◌, IsTrue, take, length}
use Rattle.trace_stuck.proofs.distinct.are_equal.Given as goal

abbrev pub invariant-loop-i : goal.invariant-loop-i
invariant-loop-i l = (length l.first ≡ length l.second) × (IsTrue l.is_same → take l.i l.first ≡ take l.i l.second)
