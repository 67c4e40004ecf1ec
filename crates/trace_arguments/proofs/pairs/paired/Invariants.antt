use Rattle.std.proofs.Common.{◌≡◌, take}
use Rattle.trace_arguments.specs.Groups.{paired}
use Rattle.trace_arguments.proofs.pairs.paired.Given as goal

abbrev pub invariant-loop-value : goal.invariant-loop-value
invariant-loop-value l = l.groups.items ≡ paired l.root (take l.value-index l.values)
