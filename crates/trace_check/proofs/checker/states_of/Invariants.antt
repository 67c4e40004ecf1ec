use Rattle.std.proofs.Common.{◌≡◌, take}
use Rattle.trace_node.specs.Answer.{states_of}
use Rattle.trace_check.proofs.checker.states_of.Given as goal

abbrev pub invariant-loop-own : goal.invariant-loop-own
invariant-loop-own l = l.states.items ≡ states_of (take l.own-index l.ops)
