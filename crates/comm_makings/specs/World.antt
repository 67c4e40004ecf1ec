-- The number of MPI_COMM_WORLD: all ranks that tell it tell the same.
use Rattle.std.specs.Prelude.{ℕ, ◌+◌, ◌==◌, List, [], ◌∷◌, Option, Some, None, if◌then◌else◌}
use Rattle.comm_makings.specs.declared.answer.DeriveFault.{DeriveFault}
use Rattle.comm_makings.specs.declared.answer.DeriveFault.TheVariants as faults
use Rattle.comm_makings.specs.declared.calls.RankCalls.{RankCalls}

-- a rank with the number that it tells, or else what the others tell
abbrev pub told_or : ℕ → Option ℕ → Option (ℕ × ℕ) → Option (ℕ × ℕ)
told_or rank None others = others
told_or rank (Some world) others = Some (rank, world)

-- the first rank that tells the number, and the number; the first of the ranks is this one
abbrev pub first_told : ℕ → List RankCalls → Option (ℕ × ℕ)
first_told rank [] = None
first_told rank (calls ∷ ranks) = told_or rank calls.world (first_told (rank + 1) ranks)

-- a rank that tells another number than this one, or else the first of the others that does
abbrev pub other_or : ℕ → ℕ → Option ℕ → Option ℕ → Option ℕ
other_or world rank None others = others
other_or world rank (Some told) others = if told == world then others else Some rank

-- the first rank that tells another number
abbrev pub other_told : ℕ → ℕ → List RankCalls → Option ℕ
other_told world rank [] = None
other_told world rank (calls ∷ ranks) = other_or world rank calls.world (other_told world (rank + 1) ranks)

-- the number that is told, and 2 where none is
abbrev pub number_told : Option (ℕ × ℕ) → ℕ
number_told None = 2
number_told (Some told) = told.1

-- The number that the first rank tells which tells one; 2 where none does.
abbrev pub world_of : List RankCalls → ℕ
world_of ranks = number_told (first_told 0 ranks)

-- the fault of two ranks, where there is a second that tells another number
abbrev pub fault_with : ℕ → Option ℕ → Option DeriveFault
fault_with first None = None
fault_with first (Some second) = Some (faults.World first second)

-- the fault of the first rank that tells a number and the first that tells another
abbrev pub fault_from : List RankCalls → Option (ℕ × ℕ) → Option DeriveFault
fault_from ranks None = None
fault_from ranks (Some told) = fault_with told.0 (other_told told.1 0 ranks)

-- Two ranks tell different numbers: the first that tells one, and the first that tells another.
abbrev pub world_fault : List RankCalls → Option DeriveFault
world_fault ranks = fault_from ranks (first_told 0 ranks)
