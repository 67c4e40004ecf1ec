use Rattle.std.proofs.Common.{◌≡◌, drop}
use Rattle.mpi_model.specs.Communicators.{is_among}
use Rattle.mpi_model.proofs.layout.comm.is_among.Given as goal

abbrev pub invariant-loop-member : goal.invariant-loop-member
invariant-loop-member l = is_among l.rank (drop l.member-index l.members) ≡ is_among l.rank l.members
