use Rattle.std.proofs.Common.{◌≡◌, map, take}
use Rattle.trace_diagnosis.specs.Askers.{asked_plain}
use Rattle.trace_diagnosis.specs.Conditions.{polled_plain}
use Rattle.trace_diagnosis.proofs.whole.all_polled.Given as goal

abbrev pub invariant-loop-asked : goal.invariant-loop-asked
invariant-loop-asked l = map polled_plain l.polled.items ≡ map asked_plain (take l.asked-index l.all)
