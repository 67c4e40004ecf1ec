use Rattle.std.proofs.Common.{◌≡◌, ℕ, [], vec_len}
use Rattle.mpi_model.specs.Held.{listed}
use Rattle.mpi_model.proofs.layout.held.empty_lists.Given as goal

abbrev pub invariant-loop-rank : goal.invariant-loop-rank
invariant-loop-rank l = (vec_len l.lists ≡ l._rank) × ((rank : ℕ) → listed l.lists.items rank ≡ [])
