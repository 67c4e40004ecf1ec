use Rattle.std.proofs.Common.{◌≡◌, drop}
use Rattle.mpi_model.specs.Communicators.{members_of}
use Rattle.mpi_model.proofs.layout.comm.members_among.Given as goal

abbrev pub invariant-loop-candidate : goal.invariant-loop-candidate
invariant-loop-candidate l = members_of (drop l.candidate-index l.comms) l.comm ≡ members_of l.comms l.comm
