use Rattle.std.proofs.Common.{◌≡◌, map, take}
use Rattle.std.specs.Option.{option_map}
use Rattle.trace_stuck.specs.Shape.{shape}
use Rattle.trace_wait.specs.Conditions.{conditions_from}
use Rattle.trace_wait.proofs.waiting.conditions_in.Given as goal

abbrev pub invariant-loop-r : goal.invariant-loop-r
invariant-loop-r l = map (option_map shape) l.out.items ≡ conditions_from l.run 0 (take l.r l.ops)
