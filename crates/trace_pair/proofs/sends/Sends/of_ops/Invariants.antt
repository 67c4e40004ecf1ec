use Rattle.std.proofs.Common.{◌≡◌, take}
use Rattle.trace_pair.specs.Table.{sends_of}
use Rattle.trace_pair.specs.Waiting.{referred}
use Rattle.trace_pair.proofs.sends.Sends.of_ops.Given as goal

abbrev pub invariant-loop-own : goal.invariant-loop-own
invariant-loop-own l = referred l.messages.items ≡ sends_of (take l.own-index l.ops)
