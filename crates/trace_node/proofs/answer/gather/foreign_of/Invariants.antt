use Rattle.std.proofs.Common.{◌≡◌, take}
use Rattle.trace_node.specs.Answer.{foreign_of}
use Rattle.trace_node.proofs.answer.gather.foreign_of.Given as goal

abbrev pub invariant-loop-own : goal.invariant-loop-own
invariant-loop-own l = l.foreign ≡ foreign_of (take l.own-index l.ops)
