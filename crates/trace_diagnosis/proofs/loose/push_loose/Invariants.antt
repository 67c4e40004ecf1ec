use Rattle.std.proofs.Common.{◌≡◌, ◌++◌, filter, take}
use Rattle.trace_diagnosis.specs.LeftOver.{is_loose}
use Rattle.trace_diagnosis.proofs.loose.push_loose.Given as goal

abbrev pub invariant-loop-m : goal.invariant-loop-m
invariant-loop-m l = l.found.items ≡ l.fn.found.items ++ filter (is_loose l.pairs.pairs) (take l.m-index l.sends)
