use Rattle.std.proofs.Common.{◌≡◌, length}
use Rattle.mpi_model.specs.Starts.{AreStarts}
use Rattle.mpi_model.proofs.layout.names.starts_of.Given as goal

abbrev pub invariant-loop-rank : goal.invariant-loop-rank
invariant-loop-rank l = (length l.starts.items ≡ l.rank) × AreStarts l.names l.starts.items
