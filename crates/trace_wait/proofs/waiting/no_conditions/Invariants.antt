use Rattle.std.proofs.Common.{◌≡◌, map, take}
use Rattle.std.specs.Option.{option_map}
use Rattle.trace_stuck.specs.Shape.{shape}
use Rattle.trace_wait.specs.Parts.{Run}
use Rattle.trace_wait.specs.Conditions.{conditions_from}
use Rattle.trace_wait.proofs.waiting.no_conditions.Given as goal

abbrev pub invariant-loop-o : goal.invariant-loop-o
invariant-loop-o l = (run : Run) → map (option_map shape) l.out.items ≡ conditions_from run 0 (take l.o-index l.ops)
