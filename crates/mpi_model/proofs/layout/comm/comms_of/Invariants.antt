use Rattle.std.proofs.Common.{◌≡◌, ◌++◌}
use Rattle.mpi_model.specs.Communicators.{communicators}
use Rattle.mpi_model.proofs.layout.comm.comms_of.Given as goal

abbrev pub invariant-loop-id : goal.invariant-loop-id
invariant-loop-id l = l.comms.items ++ communicators l.id-iterator.rest.items ≡ communicators l.fn.given.items
