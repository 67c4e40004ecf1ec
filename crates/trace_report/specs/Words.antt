-- The words of a report.
use Rattle.std.specs.Prelude.{Bool, List, [], ◌∷◌, ◌++◌, ◌+◌, ◌&&◌, ◌==◌, ℕ, Option, Some, None, codes, decimal, drop, nat_le, slice_get, if◌then◌else◌}
use Rattle.mpi_model.specs.Kinds.{KindFunction, short_name}
use Rattle.mpi_model.specs.declared.layout.Sends.{Sends}
use Rattle.mpi_model.specs.declared.layout.Sends.TheVariants.{Wait, Buffer}
use Rattle.trace_ops.specs.declared.state.State.{State}
use Rattle.trace_ops.specs.declared.state.State.TheVariants.{Free, Waiting, Ended}

-- how the layout's sends of standard mode complete
abbrev pub sends_word : Sends → List ℕ
sends_word Wait = codes "wait"
sends_word Buffer = codes "buffer"

-- the state of a rank
abbrev pub state_word : State → List ℕ
state_word Free = codes "free"
state_word Waiting = codes "waiting"
state_word Ended = codes "ended"

-- a word that stands only where it applies
abbrev pub where_so : Bool → List ℕ → List ℕ
where_so applies word = if applies then word else []

-- the part of a Startall behind a lead; the first, and every other call, has none
abbrev pub part_text : List ℕ → ℕ → List ℕ
part_text lead part = if part == 0 then [] else lead ++ decimal part

-- a letter in its small form
abbrev pub small : ℕ → ℕ
small letter = if nat_le 65 letter && nat_le letter 90 then letter + 32 else letter

-- a first letter in its small form, where there is one
abbrev pub small_first : Option ℕ → List ℕ
small_first (Some letter) = small letter ∷ []
small_first None = []

-- a name with its first letter in its small form
abbrev pub begun_small : List ℕ → List ℕ
begun_small name = small_first (slice_get name 0) ++ drop 1 name

-- a collective function: its name without `MPI_`, in small letters, as `bcast`, `ibcast` and `comm_split`; only the
-- first letter of a name isn't small there
abbrev pub function_word : KindFunction → List ℕ
function_word f = begun_small (short_name f)
