-- Knowledge as frames one after another: how it is cut into them, and what such bytes tell.
use Rattle.std.specs.Prelude.{◌≡◌, ◌⊎◌, ℕ, ◌-◌, ◌^◌, ◌<◌, ◌≤◌, List, [], ◌∷◌, ◌++◌, length, Option, Some, None, Err, IfSome, IsSome}
use Rattle.std.specs.FinMap.{empty, entries}
use Rattle.std.specs.List.{All, flat_map}
use Rattle.std.specs.Io.KnownBytes.{Appends, Keeps}
use Rattle.mpi_model.specs.Failures.{one_more}
use Rattle.trace_know.specs.View.{View, cell, join}
use Rattle.trace_wire.specs.declared.fault.WireFault.{WireFault}
use Rattle.trace_wire.specs.declared.fault.WireFault.TheVariants as faults
use Rattle.trace_wire.specs.declared.packed.fault.PackedCause.{PackedCause}
use Rattle.trace_wire.specs.declared.packed.fault.PackedCause.TheVariants.{Wire, Rank}
use Rattle.trace_wire.specs.declared.packed.fault.PackedFault.{PackedFault}
use Rattle.trace_wire.specs.declared.version.Version.{Version}
use Rattle.trace_wire.specs.Cells.{Entry}
use Rattle.trace_wire.specs.FirstFault.{frame_at}
use Rattle.trace_wire.specs.Frames.{HasFrameAs, frame, frame_as, longest, payload}
use Rattle.trace_wire.specs.Writing.{WritesFront}

-- ---- how cells are cut

-- The cells go into one frame.
abbrev pub GoIn : List Entry → Type 0
GoIn es = length (payload es) ≤ longest

-- The first of the cells that follow doesn't go in any more.
abbrev pub IsFullBefore : List Entry → List Entry → Type 0
IsFullBefore part [] = ⊥
IsFullBefore part (e ∷ es) = longest < length (payload (part ++ e ∷ []))

-- The cells, cut into parts: each is the longest front of the cells from its first one on that goes into a frame. No
-- cells are one part.
abbrev pub AreParts : List Entry → List (List Entry) → Type 0
AreParts es [] = ⊥
AreParts es (part ∷ []) = (es ≡ part) × GoIn part
AreParts es (part ∷ next ∷ parts) = GoIn part × ((rest : List Entry) × (es ≡ part ++ rest) × IsFullBefore part rest × AreParts rest (next ∷ parts))

-- the frames of parts, one after another
abbrev pub frames_of : List (List Entry) → List ℕ
frames_of parts = flat_map frame parts

-- The bytes are the frames of the parts of all that is known.
abbrev pub IsPacked : View → List ℕ → Type 0
IsPacked view bytes = (parts : List (List Entry)) × AreParts (entries view) parts × (bytes ≡ frames_of parts)

-- Such bytes were appended.
abbrev pub AppendsPacked : Option (List ℕ) → Option (List ℕ) → View → Type 0
AppendsPacked old new view = (bytes : List ℕ) × IsPacked view bytes × Appends old new bytes

-- One of the cells goes into no frame, even by itself.
abbrev pub HasLongCell : List Entry → Type 0
HasLongCell es = (front : List Entry) × (e : Entry) × (back : List Entry) × (es ≡ front ++ e ∷ back) × (longest < length (payload (e ∷ [])))

-- Why a knowledge was not packed. Nothing was written, unless the device failed.
abbrev pub IsUnpacked : View → Option (List ℕ) → Option (List ℕ) → ℕ → ℕ → WireFault → Type 0
IsUnpacked view old new before now faults.Memory = Keeps old new × (now ≡ before)
IsUnpacked view old new before now faults.Length = HasLongCell (entries view) × Keeps old new × (now ≡ before)
IsUnpacked view old new before now faults.Write = ((bytes : List ℕ) × IsPacked view bytes × WritesFront old new bytes) × (now ≡ one_more before)
IsUnpacked view old new before now fault = ⊥

-- ---- what frames tell

-- a frame: its version, and the view that it tells
abbrev pub Framed : Type 0
Framed = Version × View

-- the bytes of one frame
abbrev pub framed_bytes : Framed → List ℕ
framed_bytes f = frame_as f.0 (entries f.1)

-- the bytes of frames, one after another
abbrev pub all_bytes : List Framed → List ℕ
all_bytes frames = flat_map framed_bytes frames

-- the join of all that frames tell
abbrev pub told_by : List Framed → View
told_by [] = empty
told_by (f ∷ fs) = join f.1 (told_by fs)

-- something is known of ranks below a number alone
abbrev pub IsOfRanks : ℕ → View → Type 0
IsOfRanks ranks view = (rank place : ℕ) → IsSome (cell view rank place) → rank < ranks

-- something is known of another rank
abbrev pub HasOther : ℕ → View → Type 0
HasOther ranks view = (rank place : ℕ) × (ranks ≤ rank) × IsSome (cell view rank place)

-- It is a frame of ranks below a number.
abbrev pub IsSound : ℕ → Framed → Type 0
IsSound ranks f = HasFrameAs f.0 (entries f.1) × IsOfRanks ranks f.1

-- The bytes are frames of ranks below a number, at least one, which tell this together.
abbrev pub TellsPacked : ℕ → List ℕ → View → Type 0
TellsPacked ranks bytes view = (frames : List Framed) × (0 < length frames) × All (IsSound ranks) frames × (bytes ≡ all_bytes frames) × (view ≡ told_by frames)

-- The same of a device, where its bytes are told.
abbrev pub Unpacks : ℕ → Option (List ℕ) → View → Type 0
Unpacks ranks None view = Unit {0}
Unpacks ranks (Some bytes) view = TellsPacked ranks bytes view

-- Where something is known of ranks below a number alone, the bytes that it is packed as tell just that.
abbrev pub IsToldPacked : View → Type 0
IsToldPacked view = (bytes : List ℕ) (ranks : ℕ) → IsPacked view bytes → IsOfRanks ranks view → TellsPacked ranks bytes view

-- ---- why packed bytes are refused

-- This stands behind so many frames of ranks below a number.
abbrev pub StandsBehind : ℕ → List ℕ → ℕ → List ℕ → Type 0
StandsBehind ranks bytes count rest = (frames : List Framed) × (length frames ≡ count) × All (IsSound ranks) frames × (bytes ≡ all_bytes frames ++ rest)

-- Behind so many frames stands no other, for this cause. After the first, the bytes may end.
abbrev pub BreaksAt : ℕ → List ℕ → ℕ → WireFault → Type 0
BreaksAt ranks bytes count fault = (rest : List ℕ) × StandsBehind ranks bytes count rest × (0 < count → 0 < length rest) × (frame_at rest ≡ Err fault)

-- Behind so many frames stands one that tells something of another rank.
abbrev pub StraysAt : ℕ → List ℕ → ℕ → Type 0
StraysAt ranks bytes count = (f : Framed) × (rest : List ℕ) × StandsBehind ranks bytes count (framed_bytes f ++ rest) × HasFrameAs f.0 (entries f.1) × HasOther ranks f.1

-- No frame was read, though a byte is left or the device failed: no memory, the device failed, or what is left begins
-- with none, for this cause.
abbrev pub BreaksOff : Option (List ℕ) → ℕ → ℕ → WireFault → Type 0
BreaksOff left before now faults.Memory = now ≡ before
BreaksOff left before now faults.Read = now ≡ one_more before
BreaksOff left before now faults.Write = ⊥
BreaksOff left before now fault = (now ≡ before) × IfSome left (λ bytes. (0 < length bytes) × (frame_at bytes ≡ Err fault))

-- The same, or a frame was read that tells something of another rank.
abbrev pub RefusesNext : ℕ → Option (List ℕ) → ℕ → ℕ → PackedCause → Type 0
RefusesNext ranks left before now (Wire fault) = BreaksOff left before now fault
RefusesNext ranks left before now Rank = (now ≡ before) × IfSome left (λ bytes. (f : Framed) × (rest : List ℕ) × (bytes ≡ framed_bytes f ++ rest) × HasFrameAs f.0 (entries f.1) × HasOther ranks f.1)

-- The same of a device, where its bytes are told.
abbrev pub BreaksOffAt : ℕ → Option (List ℕ) → ℕ → WireFault → Type 0
BreaksOffAt ranks None count fault = Unit {0}
BreaksOffAt ranks (Some bytes) count fault = BreaksAt ranks bytes count fault

-- the same, of a reader that tells its bytes
abbrev pub StraysOffAt : ℕ → Option (List ℕ) → ℕ → Type 0
StraysOffAt ranks None count = Unit {0}
StraysOffAt ranks (Some bytes) count = StraysAt ranks bytes count

-- Why the frame of a number is refused, by its fault. More frames than a `u64` counts are too long.
abbrev pub RefusesWire : ℕ → Option (List ℕ) → ℕ → ℕ → ℕ → WireFault → Type 0
RefusesWire ranks left before now count faults.Memory = now ≡ before
RefusesWire ranks left before now count faults.Read = now ≡ one_more before
RefusesWire ranks left before now count faults.Write = ⊥
RefusesWire ranks left before now count faults.Length = (now ≡ before) × (BreaksOffAt ranks left count faults.Length ⊎ (count ≡ 2 ^ 64 - 1))
RefusesWire ranks left before now count fault = (now ≡ before) × BreaksOffAt ranks left count fault

-- Why the frame of a number is refused, by its cause.
abbrev pub RefusesCause : ℕ → Option (List ℕ) → ℕ → ℕ → ℕ → PackedCause → Type 0
RefusesCause ranks left before now count (Wire fault) = RefusesWire ranks left before now count fault
RefusesCause ranks left before now count Rank = (now ≡ before) × StraysOffAt ranks left count

-- Why packed bytes are refused.
abbrev pub RefusesPacked : ℕ → Option (List ℕ) → ℕ → ℕ → PackedFault → Type 0
RefusesPacked ranks left before now fault = RefusesCause ranks left before now fault.frame fault.cause
