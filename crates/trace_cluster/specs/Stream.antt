-- A stream, which is read and written: its two halves, and what each tells of the other.
use Rattle.std.specs.Prelude.{◌≡◌, ℕ, List, ◌++◌, Option, Some}
use Rattle.mpi_model.specs.Side.{Side}

-- one half of a stream: its bytes, where it tells them, and how often it has failed
abbrev pub side : Option (List ℕ) → ℕ → Side
side bytes failures = record { bytes = bytes; failures = failures }

-- a half of a stream, by what its trait tells of it: its bytes, and how often it has failed
abbrev pub half : {S : Type 0} → (S → Option (List ℕ)) → (S → ℕ) → S → Side
half bytes failures s = side (bytes s) (failures s)

-- A stream at one moment: what is left to read and what was written, each with its failures.
pub record Stream : Type 0 where
  pub reads : Side
  pub writes : Side

-- a stream of what can be read and what was written
abbrev pub halves : Side → Side → Stream
halves reads writes = record { reads = reads; writes = writes }

-- Of a type that is read and written: what a write leaves of the reading half is said of that half itself, and so is
-- what a read leaves of the writing half.
abbrev pub IsStream : {S : Type 0} → (S → Side) → (S → Side) → (S → Side) → (S → Side) → Type 0
IsStream {S} reads read_side writes write_side = (s : S) → (read_side s ≡ reads s) × (write_side s ≡ writes s)

-- Where the halves of a stream tell of each other, this holds, of how the stream stands at each moment.
abbrev pub OverStream : {S : Type 0} → (S → Side) → (S → Side) → (S → Side) → (S → Side) → ((S → Stream) → Type 0) → Type 0
OverStream reads read_side writes write_side Holds = IsStream reads read_side writes write_side → Holds (λ s. halves (reads s) (writes s))

-- What is left for one to read begins with what another has written between two moments.
abbrev pub IsFedBy : Side → Side → Side → Type 0
IsFedBy reader before after =
    (old sent more : List ℕ) × (before.bytes ≡ Some old) × (after.bytes ≡ Some (old ++ sent)) × (reader.bytes ≡ Some (sent ++ more))
