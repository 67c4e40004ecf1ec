use Rattle.std.proofs.Common.{◌≡◌, false, take}
use Rattle.std.specs.List.{list_any}
use Rattle.trace_arguments.specs.Differing.{misfits}
use Rattle.trace_arguments.proofs.differing.one_misfits.Given as goal

abbrev pub invariant-loop-value : goal.invariant-loop-value
invariant-loop-value l = list_any (misfits l.root) (take l.value-index l.values) ≡ false
