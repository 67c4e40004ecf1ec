-- The files of a run.
use Rattle.std.specs.Prelude.{◌≡◌, ◌<◌, ◌≤◌, ◌⊎◌, ℕ, List, Option, Some, None, String, length}
use Rattle.std.specs.declared.alloc.Global.{Global}
use Rattle.dumpi_text.specs.declared.fault.TextCause.TheVariants.{Read}
use Rattle.run_inputs.specs.declared.faults.fault.RunFault.{RunFault}
use Rattle.run_inputs.specs.declared.faults.fault.RunFault.TheVariants.{Text}

-- A reader stands at the first byte of the file, where its bytes are told.
abbrev pub StandsAtFirst : Option (List ℕ) → Option (List ℕ) → Type 0
StandsAtFirst None left = Unit {0}
StandsAtFirst (Some bytes) left = left ≡ Some bytes

-- The file has so many bytes, where they are told.
abbrev pub IsLength : Option (List ℕ) → ℕ → Type 0
IsLength None count = Unit {0}
IsLength (Some bytes) count = count ≡ length bytes

-- These are the bytes of the file, where they are told.
abbrev pub IsFile : Option (List ℕ) → List ℕ → Type 0
IsFile None bytes = Unit {0}
IsFile (Some told) bytes = told ≡ bytes

-- A file of at most so many bytes, where they are told.
abbrev pub FitsIn : ℕ → Option (List ℕ) → Type 0
FitsIn most None = Unit {0}
FitsIn most (Some bytes) = length bytes ≤ most

-- Why a file that may have so many bytes can't be read: its bytes aren't known, as when it is absent; or its reader
-- fails; or it has more.
abbrev pub IsUnreadable : ℕ → Type 0 → Option (List ℕ) → Type 0
IsUnreadable most fails None = Unit {0}
IsUnreadable most fails (Some bytes) = fails ⊎ (most < length bytes)

-- A fault that says that a text's reader failed is answered only of a reader that fails.
abbrev pub NamesFailed : Type 0 → RunFault → Type 0
NamesFailed fails fault = (path : String Global) (line : ℕ) → fault ≡ Text Read path line → fails
