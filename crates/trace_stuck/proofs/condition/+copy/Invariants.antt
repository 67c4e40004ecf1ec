use Rattle.std.proofs.Common.{◌≡◌, map, take}
use Rattle.trace_stuck.specs.Shape.{shape}
use Rattle.trace_stuck.proofs.condition.+copy.Given as goal

abbrev pub invariant-copies_of-loop-c : goal.invariant-copies_of-loop-c
invariant-copies_of-loop-c l = map shape l.copies.items ≡ map shape (take l.c-index l.parts)
