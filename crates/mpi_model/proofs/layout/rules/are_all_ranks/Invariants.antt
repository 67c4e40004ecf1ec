use Rattle.std.proofs.Common.{◌≡◌, drop}
use Rattle.mpi_model.specs.Layouts.{counts_from}
use Rattle.mpi_model.proofs.layout.rules.are_all_ranks.Given as goal

abbrev pub invariant-loop-member : goal.invariant-loop-member
invariant-loop-member l = record {
  next : l.next ≡ l.member-index;
  rest : counts_from l.next (drop l.member-index l.members) ≡ counts_from 0 l.members;
}
