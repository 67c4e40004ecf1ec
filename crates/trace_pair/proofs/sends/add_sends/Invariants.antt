use Rattle.std.proofs.Common.{◌≡◌, ◌++◌, take}
use Rattle.trace_pair.specs.Waiting.{referred}
use Rattle.trace_pair.proofs.sends.add_sends.Given as goal

abbrev pub invariant-loop-m : goal.invariant-loop-m
invariant-loop-m l = referred l.messages.items ≡ referred l.fn.messages.items ++ take l.m-index l.own
