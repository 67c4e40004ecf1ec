use Rattle.std.proofs.Common.{◌≡◌, take}
use Rattle.trace_arguments.specs.Truncated.{truncated_of}
use Rattle.trace_arguments.proofs.truncated.truncated_of.Given as goal

abbrev pub invariant-loop-pair : goal.invariant-loop-pair
invariant-loop-pair l = l.found.items ≡ truncated_of l.ops (take l.pair-index l.pairs)
