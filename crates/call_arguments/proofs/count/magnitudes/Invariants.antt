use Rattle.std.proofs.Common.{◌≡◌, map, take}
use Rattle.call_arguments.specs.Counts.{magnitude}
use Rattle.call_arguments.proofs.count.magnitudes.Given as goal

abbrev pub invariant-loop-number : goal.invariant-loop-number
invariant-loop-number l = l.counts.items ≡ map magnitude (take l.number-index l.numbers)
