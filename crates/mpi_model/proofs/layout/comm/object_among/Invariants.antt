use Rattle.std.proofs.Common.{◌≡◌, drop}
use Rattle.mpi_model.specs.Communicators.{object_of_comm}
use Rattle.mpi_model.proofs.layout.comm.object_among.Given as goal

abbrev pub invariant-loop-candidate : goal.invariant-loop-candidate
invariant-loop-candidate l = object_of_comm (drop l.candidate-index l.comms) l.comm ≡ object_of_comm l.comms l.comm
