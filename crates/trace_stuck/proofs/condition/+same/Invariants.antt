use Rattle.std.proofs.Common.{◌≡◌, map, take, length}
use Rattle.trace_stuck.specs.Shape.{shape}
use Rattle.trace_stuck.proofs.condition.+same.Given as goal

abbrev pub invariant-are_same-loop-i : goal.invariant-are_same-loop-i
invariant-are_same-loop-i l = (length l.first ≡ length l.second) × (map shape (take l.i l.first) ≡ map shape (take l.i l.second))
