use Rattle.std.proofs.Common.{◌≡◌, drop}
use Rattle.std.specs.List.{list_any}
use Rattle.mpi_model.specs.Layouts.{is_empty_group}
use Rattle.mpi_model.proofs.layout.rules.some_empty.Given as goal

abbrev pub invariant-loop-comm : goal.invariant-loop-comm
invariant-loop-comm l = list_any is_empty_group (drop l.comm-index l.comms) ≡ list_any is_empty_group l.comms
