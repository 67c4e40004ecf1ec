use Rattle.std.proofs.Common.{◌≡◌, None, take}
use Rattle.trace_arguments.specs.Differing.{root_of}
use Rattle.trace_arguments.proofs.differing.root_of.Given as goal

abbrev pub invariant-loop-value : goal.invariant-loop-value
invariant-loop-value l = root_of l.root (take l.value-index l.values) ≡ None
