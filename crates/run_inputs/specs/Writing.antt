-- How an output grows by a text, or by a front of it.
use Rattle.std.specs.Prelude.{◌<◌, ℕ, List, Option, length, take}
use Rattle.std.specs.Io.KnownBytes.{Appends}
use Rattle.mpi_model.specs.Failures.{HasFailed}

-- The bytes grew by a text, but for its end.
abbrev pub AppendsFront : Option (List ℕ) → Option (List ℕ) → List ℕ → Type 0
AppendsFront old new text = (count : ℕ) × (count < length text) × Appends old new (take count text)

-- The bytes grew by a text of this kind.
abbrev pub Writes : (List ℕ → Type 0) → Option (List ℕ) → Option (List ℕ) → Type 0
Writes Is old new = (text : List ℕ) × Is text × Appends old new text

-- The bytes grew by a text of this kind, but for its end.
abbrev pub WritesFront : (List ℕ → Type 0) → Option (List ℕ) → Option (List ℕ) → Type 0
WritesFront Is old new = (text : List ℕ) × Is text × AppendsFront old new text

-- A writer failed after it had taken a front of a text of this kind.
abbrev pub BreaksOff : {W : Type 0} → (List ℕ → Type 0) → (W → Option (List ℕ)) → (W → ℕ) → W → W → Type 0
BreaksOff Is written failures old new = WritesFront Is (written old) (written new) × HasFailed (failures old) (failures new)
