-- Whole pieces read and written.
use Rattle.std.specs.Prelude.{◌≡◌, ℕ, ◌<◌, List, take, length, Option}
use Rattle.std.specs.Io.KnownBytes.{Consumes, IsAtEnd}
use Rattle.mpi_model.specs.Failures.{one_more}
use Rattle.mpi_model.specs.declared.whole.ReadFault.{ReadFault}
use Rattle.mpi_model.specs.declared.whole.ReadFault.TheVariants.{Failed, Short}

-- how many bytes of the buffer were filled before the fault
abbrev pub taken_at : ReadFault → ℕ
taken_at (Failed taken) = taken
taken_at (Short taken) = taken

-- A front of the buffer was filled, and not all of it, and no byte more was taken.
abbrev pub TakesFront : Option (List ℕ) → Option (List ℕ) → List ℕ → ReadFault → Type 0
TakesFront old new buffer fault = (taken_at fault < length buffer) × Consumes old new (take (taken_at fault) buffer)

-- Why a buffer was not filled: the last call of the device failed, or its bytes have ended.
abbrev pub HasCause : Option (List ℕ) → ℕ → ℕ → ReadFault → Type 0
HasCause left before now (Failed taken) = now ≡ one_more before
HasCause left before now (Short taken) = IsAtEnd left × (now ≡ before)
