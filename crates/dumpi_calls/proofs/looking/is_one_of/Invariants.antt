use Rattle.std.proofs.Common.{◌≡◌, drop}
use Rattle.dumpi_calls.specs.Looked.{is_named_in}
use Rattle.dumpi_calls.proofs.looking.is_one_of.Given as goal

abbrev pub invariant-loop-parameter : goal.invariant-loop-parameter
invariant-loop-parameter l = is_named_in (drop l.parameter-index l.parameters) l.name ≡ is_named_in l.parameters l.name
