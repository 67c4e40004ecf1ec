use Rattle.std.proofs.Common.{◌≡◌, ◌++◌, ℕ, drop}
use Rattle.mpi_model.specs.Held.{id_by, listed}
use Rattle.mpi_model.proofs.layout.held.add_to_lists.Given as goal

abbrev pub invariant-loop-member : goal.invariant-loop-member
invariant-loop-member l = (rank : ℕ) → listed l.lists rank ++ id_by rank l.comm (drop l.member-index l.members) ≡ listed l.initial.lists rank ++ id_by rank l.comm l.members
