use Rattle.std.proofs.Common.{◌≡◌, drop}
use Rattle.dumpi_calls.specs.Lacking.{is_none_there}
use Rattle.dumpi_calls.proofs.lacking.is_none_there.Given as goal

abbrev pub invariant-loop-parameter : goal.invariant-loop-parameter
invariant-loop-parameter l = is_none_there (drop l.parameter-index l.parameters) l.raw ≡ is_none_there l.parameters l.raw
