use Rattle.std.proofs.Common.{◌≡◌, false, take}
use Rattle.trace_diagnosis.specs.LeftOver.{has_sure_loose}
use Rattle.trace_diagnosis.proofs.loose.is_some_loose.Given as goal

abbrev pub invariant-loop-own : goal.invariant-loop-own
invariant-loop-own l = has_sure_loose l.pairs (take l.own-index l.ops) ≡ false
