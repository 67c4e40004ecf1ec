use Rattle.std.proofs.Common.{◌≡◌, ◌++◌, drop}
use Rattle.mpi_model.specs.Names.{names_by_id}
use Rattle.mpi_model.proofs.layout.names.push_by_id.Given as goal

abbrev pub invariant-loop-rank : goal.invariant-loop-rank
invariant-loop-rank l = l.names.items ++ names_by_id l.comm (drop l.rank-index l.members) ≡ l.fn.names.items ++ names_by_id l.comm l.members
