use Rattle.std.proofs.Common.{◌≡◌, drop}
use Rattle.std.specs.List.{list_any}
use Rattle.mpi_model.specs.Layouts.{has_wrong_numbers}
use Rattle.mpi_model.proofs.layout.rules.some_wrong_numbers.Given as goal

abbrev pub invariant-loop-comm : goal.invariant-loop-comm
invariant-loop-comm l = list_any has_wrong_numbers (drop l.comm-index l.comms) ≡ list_any has_wrong_numbers l.comms
