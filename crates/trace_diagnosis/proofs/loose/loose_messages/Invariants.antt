use Rattle.std.proofs.Common.{◌≡◌, take}
use Rattle.trace_diagnosis.specs.LeftOver.{loose}
use Rattle.trace_diagnosis.proofs.loose.loose_messages.Given as goal

abbrev pub invariant-loop-own : goal.invariant-loop-own
invariant-loop-own l = l.found.items ≡ loose (take l.own-index l.ops) l.pairs.pairs
