use Rattle.std.proofs.Common.{◌≡◌, ◌++◌, ℕ, drop}
use Rattle.mpi_model.specs.Held.{ids_by, listed}
use Rattle.mpi_model.proofs.layout.held.add_all.Given as goal

abbrev pub invariant-loop-comm : goal.invariant-loop-comm
invariant-loop-comm l = (rank : ℕ) → listed l.lists rank ++ ids_by rank (drop l.comm-index l.comms) ≡ listed l.initial.lists rank ++ ids_by rank l.comms
