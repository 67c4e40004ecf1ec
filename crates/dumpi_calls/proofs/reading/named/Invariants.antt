use Rattle.std.proofs.Common.{◌≡◌, ◌++◌, drop}
use Rattle.dumpi_calls.specs.Readings.{requests_of}
use Rattle.dumpi_calls.proofs.reading.named.Given as goal

abbrev pub invariant-loop-number : goal.invariant-loop-number
invariant-loop-number l = l.named.items ++ requests_of (drop l.number-index l.numbers) ≡ requests_of l.numbers
