use Rattle.std.proofs.Common.{◌≡◌, ◌++◌, drop}
use Rattle.mpi_model.specs.Communicators.{ids}
use Rattle.mpi_model.proofs.layout.rules.ids_of.Given as goal

abbrev pub invariant-loop-comm : goal.invariant-loop-comm
invariant-loop-comm l = l.ids.items ++ ids (drop l.comm-index l.comms) ≡ ids l.comms
