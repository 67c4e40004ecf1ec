-- The source of a receive that names none: what the outcome that completes it tells (MPI 4.0, 3.2.4 and 3.2.5).
use Rattle.std.specs.Prelude.{ℕ, ℤ, if◌then◌else◌, Option, Some, None, List, [], ◌∷◌, slice_get}
use Rattle.std.specs.Option.{option_or, option_and_then}
use Rattle.std.specs.Ordering.{int_eq}
use Rattle.mpi_model.specs.declared.outcome.Outs.{Outs}
use Rattle.mpi_model.specs.declared.outcome.Outs.TheVariants.{Status, Flag}
use Rattle.mpi_model.specs.Tells.{told_rank}
use Rattle.trace_ops.specs.declared.completed.Completed.{Completed}
use Rattle.trace_ops.specs.Steps.{Step, completed_by, touches}

-- the rank of the trace that a told number names; a number outside the group tells nothing
abbrev pub source_in : List ℕ → Option ℕ → Option ℕ
source_in members told = option_and_then (slice_get members) told

-- what a place of an outcome tells of the request x
abbrev pub told_at : List ℕ → ℤ → Completed → Option ℕ
told_at members x c = if int_eq c.request x then source_in members (told_rank c.told) else None

-- what an outcome tells of the request x: its first place that tells decides
abbrev pub told_in : List ℕ → ℤ → List Completed → Option ℕ
told_in members x [] = None
told_in members x (c ∷ done) = option_or (told_at members x c) (told_in members x done)

-- What the steps after a post of x tell of its source. The first of them that completes x decides, also where it tells
-- nothing; after x was posted anew no outcome completes the earlier post.
abbrev pub told_by : List ℕ → ℤ → List Step → Option ℕ
told_by members x [] = None
told_by members x (s ∷ later) = if touches x s then told_in members x (completed_by s) else told_by members x later

-- what the outcome of a Recv, Sendrecv or Mprobe tells
abbrev pub told_of_own : List ℕ → Option Outs → Option ℕ
told_of_own members (Some (Status told)) = source_in members (told_rank told)
told_of_own members outs = None

-- what the outcome of an Improbe tells, where it has taken a message (MPI 4.0, 3.8.2)
abbrev pub told_of_flag : List ℕ → Option Outs → Option ℕ
told_of_flag members (Some (Flag done told)) = if done then source_in members (told_rank told) else None
told_of_flag members outs = None

-- what later steps tell of a receive that posted this number
abbrev pub told_of_post : List ℕ → List Step → Option ℤ → Option ℕ
told_of_post members later None = None
told_of_post members later (Some x) = told_by members x later
