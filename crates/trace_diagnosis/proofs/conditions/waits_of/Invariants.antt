use Rattle.std.proofs.Common.{◌≡◌, map, take}
use Rattle.trace_diagnosis.specs.Askers.{shapes}
use Rattle.trace_diagnosis.specs.Conditions.{does_wait}
use Rattle.trace_diagnosis.proofs.conditions.waits_of.Given as goal

abbrev pub invariant-loop-condition : goal.invariant-loop-condition
invariant-loop-condition l = l.waits.items ≡ map does_wait (shapes (take l.condition-index l.conditions))
