-- What a call does to a writer, by the writer before it and after it. What a writer says of itself stands in front: the
-- bytes that were written, how often it has failed, and its side for reading.
use Rattle.std.specs.Prelude.{ℕ, Bool, List, Option}
use Rattle.mpi_model.specs.Side.{Side}
use Rattle.trace_know.specs.View.{View}
use Rattle.trace_wire.specs.declared.fault.WireFault.{WireFault}
use Rattle.trace_wire.specs.declared.version.Version.{Version}
use Rattle.trace_wire.specs.Cells.{Entry}
use Rattle.trace_wire.specs.Packed.{IsUnpacked}
use Rattle.trace_wire.specs.Sending.{Sends, closing, opening}
use Rattle.trace_wire.specs.Writing.{IsUnwritten, IsUnwrittenAs}

-- The bytes were sent, and nothing is held any more; or a write failed, and then nothing more was sent.
abbrev pub SendsAll : {W : Type 0} → (W → Option (List ℕ)) → (W → ℕ) → (W → Side) → W → W → Bool → List ℕ → Type 0
SendsAll written failures side old new failed bytes = Sends (opening (written old) (failures old) (side old)) (closing (written new) (failures new) (side new) failed) bytes

-- Why cells were not written in a version: their frame is too long for it, or the device failed.
abbrev pub StaysUnwrittenAs : {W : Type 0} → (W → Option (List ℕ)) → (W → ℕ) → W → W → Version → List Entry → WireFault → Type 0
StaysUnwrittenAs written failures old new version es fault = IsUnwrittenAs version es (written old) (written new) (failures old) (failures new) fault

-- The same of version 2.
abbrev pub StaysUnwritten : {W : Type 0} → (W → Option (List ℕ)) → (W → ℕ) → W → W → List Entry → WireFault → Type 0
StaysUnwritten written failures old new es fault = IsUnwritten es (written old) (written new) (failures old) (failures new) fault

-- Why a knowledge was not packed. Nothing was written, unless the device failed.
abbrev pub StaysUnpacked : {W : Type 0} → (W → Option (List ℕ)) → (W → ℕ) → W → W → View → WireFault → Type 0
StaysUnpacked written failures old new view fault = IsUnpacked view (written old) (written new) (failures old) (failures new) fault
