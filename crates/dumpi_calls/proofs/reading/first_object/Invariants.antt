use Rattle.std.proofs.Common.{◌≡◌, drop}
use Rattle.dumpi_calls.specs.Readings.{first_object}
use Rattle.dumpi_calls.proofs.reading.first_object.Given as goal

abbrev pub invariant-loop-parameter : goal.invariant-loop-parameter
invariant-loop-parameter l = first_object l.object (drop l.parameter-index l.parameters) l.raw ≡ first_object l.object l.parameters l.raw
