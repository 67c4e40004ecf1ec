use Rattle.std.proofs.Common.{◌≡◌, map, take}
use Rattle.trace_diagnosis.specs.Askers.{shapes}
use Rattle.trace_diagnosis.specs.Holding.{is_held}
use Rattle.trace_diagnosis.proofs.conditions.held_of.Given as goal

abbrev pub invariant-loop-condition : goal.invariant-loop-condition
invariant-loop-condition l = l.held.items ≡ map is_held (shapes (take l.condition-index l.conditions))
