use Rattle.std.proofs.Common.{take}
use Rattle.trace_stuck.specs.Distinct.{AllHoldAlike}
use Rattle.trace_stuck.proofs.distinct.distinct_conditions.Given as goal

abbrev pub invariant-loop-condition : goal.invariant-loop-condition
invariant-loop-condition l = AllHoldAlike l.distinct.items (take l.condition-index l.conditions)
