-- Why a file is not read whole.
use Rattle.std.specs.Prelude.{◌≡◌, ◌<◌, ℕ, List, Option, length}
use Rattle.std.specs.Io.KnownBytes.{Consumes}
use Rattle.mpi_model.specs.Failures.{one_more}
use Rattle.run_inputs.specs.declared.load.whole.WholeFault.{WholeFault}
use Rattle.run_inputs.specs.declared.load.whole.WholeFault.TheVariants.{Memory, Failed, TooLong}

-- Why a reader that told what it has left, and how often it has failed, is not read whole: its last call failed; or it
-- has taken more than the limit.
abbrev pub IsRefusedFor : {R : Type 0} → ℕ → (R → Option (List ℕ)) → (R → ℕ) → R → R → WholeFault → Type 0
IsRefusedFor most left failures old new Memory = Unit {0}
IsRefusedFor most left failures old new Failed = failures new ≡ one_more (failures old)
IsRefusedFor most left failures old new TooLong = (taken : List ℕ) × Consumes (left old) (left new) taken × (most < length taken)
