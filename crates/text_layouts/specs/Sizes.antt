-- The size of MPI_COMM_WORLD (MPI 4.0, 7.4.1): it is the number of ranks, by each rank that tells it.
use Rattle.std.specs.Prelude.{ℕ, ◌+◌, ◌==◌, List, [], ◌∷◌, Option, Some, None, length, if◌then◌else◌}
use Rattle.comm_makings.specs.declared.calls.RankCalls.{RankCalls}

-- a rank and the size that it tells, where that is another than the number of ranks
abbrev pub other_or : ℕ → ℕ → Option ℕ → Option (ℕ × ℕ) → Option (ℕ × ℕ)
other_or count rank None others = others
other_or count rank (Some size) others = if size == count then others else Some (rank, size)

-- the first such rank; the first of the ranks is this one
abbrev pub other_size : ℕ → ℕ → List RankCalls → Option (ℕ × ℕ)
other_size count rank [] = None
other_size count rank (calls ∷ ranks) = other_or count rank calls.size (other_size count (rank + 1) ranks)

-- the first rank that tells another size than the number of ranks, and that size
abbrev pub size_fault : List RankCalls → Option (ℕ × ℕ)
size_fault ranks = other_size (length ranks) 0 ranks
