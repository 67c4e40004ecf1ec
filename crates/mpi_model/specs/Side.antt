-- The other side of a stream: what a read leaves of writing, and a write of reading.
use Rattle.std.specs.Prelude.{◌≡◌, ℕ, List, Option, None}
use Rattle.std.specs.Io.KnownBytes.{Keeps}

-- one side of a stream: its bytes, where the device tells them, and the count of its failures
pub record Side : Type 0 where
  pub bytes : Option (List ℕ)
  pub failures : ℕ

-- the other side of a device that only reads, or only writes
abbrev pub untold : Side
untold = record { bytes = None; failures = 0 }

-- A call on one side leaves the other as it was.
pub record LeavesSide (old new : Side) : Type 0 where
  pub bytes : Keeps old.bytes new.bytes
  pub failures : new.failures ≡ old.failures
