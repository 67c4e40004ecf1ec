use Rattle.std.proofs.Common.{◌≡◌, drop}
use Rattle.mpi_model.specs.Communicators.{is_intercomm}
use Rattle.mpi_model.proofs.layout.comm.is_intercomm_among.Given as goal

abbrev pub invariant-loop-candidate : goal.invariant-loop-candidate
invariant-loop-candidate l = is_intercomm (drop l.candidate-index l.comms) l.comm ≡ is_intercomm l.comms l.comm
