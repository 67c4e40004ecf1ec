-- Reading a payload through a window: the bytes of it that are held, and those that are still to come from the device.
use Rattle.std.specs.Prelude.{◌≡◌, ◌⊎◌, ℕ, ◌+◌, List, ◌++◌, length, Option, Some, Result, Ok}
use Rattle.std.specs.FinMap.{entries}
use Rattle.std.specs.Io.KnownBytes.{Consumes}
use Rattle.trace_know.specs.View.{View}
use Rattle.trace_wire.specs.declared.fault.WireFault.{WireFault}
use Rattle.trace_wire.specs.declared.read.unread.Unread.{Unread}
use Rattle.trace_wire.specs.declared.read.unread.Unread.TheVariants.{Device, Payload}
use Rattle.trace_wire.specs.declared.version.Version.{Version}
use Rattle.trace_wire.specs.Cells.{Entry}
use Rattle.trace_wire.specs.FirstFault.{payload_of}
use Rattle.trace_wire.specs.Forms.{IsBytes}
use Rattle.trace_wire.specs.Held.{Held}
use Rattle.trace_wire.specs.Outcomes.{FailsWith, IsOfBytes}
use Rattle.trace_wire.specs.Reading.{IsUnfilled}

-- Bytes of a payload were taken from the device. However it goes on, all that was left of it before and all that is
-- left now stand so to each other.
pub record Comes (old new : Option (List ℕ)) (s t : Held) (Stand : List ℕ → List ℕ → Type 0) : Type 0 where
  pub taken : List ℕ
  pub took : Consumes old new taken
  pub fits : IsBytes taken
  pub count : s.coming ≡ length taken + t.coming
  pub stand : (more : List ℕ) → length more ≡ t.coming → Stand (s.bytes ++ (taken ++ more)) (t.bytes ++ more)

-- Nothing was read of what was left.
abbrev pub IsLeft : List ℕ → List ℕ → Type 0
IsLeft whole rest = whole ≡ rest

-- This value was read in front of what was left.
abbrev pub Gave : {A : Type 0} → (List ℕ → Result (A × List ℕ) WireFault) → A → List ℕ → List ℕ → Type 0
Gave read x whole rest = read whole ≡ Ok (x, rest)

-- The device failed, or ended before the payload; or what is left of the payload is refused for this cause, however it
-- goes on.
abbrev pub Stops : {A : Type 0} → Option (List ℕ) → Option (List ℕ) → ℕ → ℕ → Held → Held → (List ℕ → Result A WireFault) → Unread → Type 0
Stops old new before now s t read (Device fault) = IsUnfilled s.coming old before now fault
Stops old new before now s t read (Payload fault) = (now ≡ before) × IsOfBytes fault × Comes old new s t (λ whole rest. FailsWith fault (read whole))

-- A value was read in front of what is held, whatever comes behind it.
abbrev pub Passes : {A : Type 0} → Held → Held → (List ℕ → Option (A × List ℕ)) → A → Type 0
Passes s t read x = (t.coming ≡ s.coming) × ((more : List ℕ) → read (s.bytes ++ more) ≡ Some (x, t.bytes ++ more))

-- ---- a whole payload

-- What was left is a payload, with the cells of all that is known.
abbrev pub IsPayloadOf : Version → View → List ℕ → List ℕ → Type 0
IsPayloadOf version know whole rest = payload_of version whole ≡ Ok (entries know)

-- Just a payload of so many bytes was read, with these cells.
abbrev pub ReadsPayload : Version → ℕ → Option (List ℕ) → Option (List ℕ) → List Entry → Type 0
ReadsPayload version len old new es = (bytes : List ℕ) × Consumes old new bytes × IsBytes bytes × (length bytes ≡ len) × (payload_of version bytes ≡ Ok es)

-- A payload of so many bytes was read to its end, and refused for this cause.
abbrev pub FailsPayload : Version → ℕ → Option (List ℕ) → Option (List ℕ) → WireFault → Type 0
FailsPayload version len old new fault = (bytes : List ℕ) × Consumes old new bytes × (length bytes ≡ len) × FailsWith fault (payload_of version bytes)

-- Why a payload of so many bytes was not read: it was not there, or its bytes are refused.
abbrev pub IsRefused : Version → ℕ → Option (List ℕ) → Option (List ℕ) → ℕ → ℕ → WireFault → Type 0
IsRefused version len old new before now fault = IsUnfilled len old before now fault ⊎ ((now ≡ before) × IsOfBytes fault × FailsPayload version len old new fault)
