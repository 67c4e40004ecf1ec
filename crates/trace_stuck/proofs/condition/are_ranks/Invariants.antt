use Rattle.std.proofs.Common.{◌≡◌, map, take, length}
use Rattle.trace_stuck.specs.Shape.{shape, OnRank}
use Rattle.trace_stuck.proofs.condition.are_ranks.Given as goal

abbrev pub invariant-loop-i : goal.invariant-loop-i
invariant-loop-i l = (length l.parts ≡ length l.ranks) × (map shape (take l.i l.parts) ≡ map OnRank (take l.i l.ranks))
