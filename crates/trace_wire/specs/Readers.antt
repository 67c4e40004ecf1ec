-- What a call does to a reader, by the reader before it and after it. What a reader says of itself stands in front: the
-- bytes that it has left, and how often it has failed.
use Rattle.std.specs.Prelude.{ℕ, List, Option, Result}
use Rattle.std.specs.FinMap.{entries}
use Rattle.trace_know.specs.View.{View}
use Rattle.trace_wire.specs.declared.fault.WireFault.{WireFault}
use Rattle.trace_wire.specs.declared.read.runs.Run.{Run}
use Rattle.trace_wire.specs.declared.read.unread.Unread.{Unread}
use Rattle.trace_wire.specs.declared.version.Version.{Version}
use Rattle.trace_wire.specs.Cells.{Entry}
use Rattle.trace_wire.specs.Held.{Held}
use Rattle.trace_wire.specs.Reading.{IsUnfilled}
use Rattle.trace_wire.specs.Runs.{PlacedRun, placed_run}
use Rattle.trace_wire.specs.Windows.{Comes, Gave, IsRefused, Stops}

-- Why so many bytes were not read: no memory, the device failed, or its bytes ended before.
abbrev pub StaysUnfilled : {R : Type 0} → (R → Option (List ℕ)) → (R → ℕ) → R → R → ℕ → WireFault → Type 0
StaysUnfilled left failures old new count fault = IsUnfilled count (left old) (failures old) (failures new) fault

-- ---- through a window

-- This value was read in front of what was left of a payload.
abbrev pub Finds : {R A : Type 0} → (R → Option (List ℕ)) → R → R → Held → Held → (List ℕ → Result (A × List ℕ) WireFault) → A → Type 0
Finds left old new s t read x = Comes (left old) (left new) s t (Gave read x)

-- the run that was read
abbrev pub run_in : Run → PlacedRun
run_in r = placed_run (r.rank, r.first) r.cells.items

-- Cells were read there, and they are all that is known.
abbrev pub FindsCells : {R : Type 0} → (R → Option (List ℕ)) → R → R → Held → Held → (List ℕ → Result (List Entry × List ℕ) WireFault) → View → Type 0
FindsCells left old new s t read know = Finds left old new s t read (entries know)

-- The device failed, or ended before the payload; or what was left of it is refused for this cause, however it goes on.
abbrev pub Misses : {R A : Type 0} → (R → Option (List ℕ)) → (R → ℕ) → R → R → Held → Held → (List ℕ → Result A WireFault) → Unread → Type 0
Misses left failures old new s t read stop = Stops (left old) (left new) (failures old) (failures new) s t read stop

-- Why a payload of so many bytes was not read: it was not there, or its bytes are refused.
abbrev pub RefusesPayload : {R : Type 0} → (R → Option (List ℕ)) → (R → ℕ) → R → R → Version → ℕ → WireFault → Type 0
RefusesPayload left failures old new version len fault = IsRefused version len (left old) (left new) (failures old) (failures new) fault
