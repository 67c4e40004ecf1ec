use Rattle.std.proofs.Common.{◌≡◌, ◌++◌, drop}
use Rattle.mpi_model.specs.Names.{names_of}
use Rattle.mpi_model.proofs.layout.names.all_names.Given as goal

abbrev pub invariant-loop-comm : goal.invariant-loop-comm
invariant-loop-comm l = l.names.items ++ names_of l.object (drop l.comm-index l.comms) ≡ names_of l.object l.comms
