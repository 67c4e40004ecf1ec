use Rattle.std.proofs.Common.{◌≡◌, drop, false, length}
use Rattle.mpi_model.proofs.Doubles.{doubles}
use Rattle.mpi_model.specs.Communicators.{has_double}
use Rattle.mpi_model.specs.Layouts.{has_stranger}
use Rattle.mpi_model.proofs.layout.rules.double_in.Given as goal

abbrev pub invariant-loop-member : goal.invariant-loop-member
invariant-loop-member l = record {
  size : length l.seen.items ≡ l.ranks;
  in_range : has_stranger l.ranks (drop l.member-index l.members) ≡ false;
  rest : doubles l.seen.items (drop l.member-index l.members) ≡ has_double l.members;
}
