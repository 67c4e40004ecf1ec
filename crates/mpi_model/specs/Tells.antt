-- What an outcome tells of a source (MPI 4.0, 3.2.5).
use Rattle.std.specs.Prelude.{ℕ, Bool, true, false, Option, Some, None}
use Rattle.mpi_model.specs.declared.told.Told.{Told}
use Rattle.mpi_model.specs.declared.told.Told.TheVariants.{Nothing, Source, Cancelled}

-- the source's rank in the group, where one is told
abbrev pub told_rank : Told → Option ℕ
told_rank Nothing = None
told_rank (Source rank) = Some rank
told_rank Cancelled = None

-- The operation was cancelled (MPI 4.0, 3.8.4).
abbrev pub is_cancelled : Told → Bool
is_cancelled Nothing = false
is_cancelled (Source rank) = false
is_cancelled Cancelled = true
