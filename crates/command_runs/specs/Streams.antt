-- How an output grows that is written as its lines come.
use Rattle.std.specs.Prelude.{◌≡◌, ◌⊎◌, ℕ, List, Option, Result, Ok, Err}
use Rattle.std.specs.Io.KnownBytes.{Appends, Keeps}
use Rattle.mpi_model.specs.Failures.{HasFailed}
use Rattle.run_inputs.specs.Writing.{BreaksOff, Writes}
use Rattle.run_inputs.specs.declared.faults.fault.RunFault.{RunFault}
use Rattle.run_inputs.specs.declared.faults.fault.RunFault.TheVariants.{Write}
use Rattle.command_runs.specs.declared.run.Outcome.{Outcome}
use Rattle.command_runs.specs.declared.run.Outcome.TheVariants.{Good}

-- The bytes grew by some text.
abbrev pub Grows : Option (List ℕ) → Option (List ℕ) → Type 0
Grows old new = (text : List ℕ) × Appends old new text

-- A part of an output was written, as far as it went: where the writer is to blame that it stopped, the writer has
-- failed meanwhile, and else it has not.
abbrev pub WritesOn : {W T : Type 0} → Result T RunFault → (W → Option (List ℕ)) → (W → ℕ) → W → W → Type 0
WritesOn (Ok done) written failures old new = Grows (written old) (written new) × (failures new ≡ failures old)
WritesOn (Err fault) written failures old new = Grows (written old) (written new) × ((fault ≡ Write) → HasFailed (failures old) (failures new))

-- A run answered so that writes while it reads a second time: its output was written whole; or the writer failed, and
-- the output broke off; or the run is refused for this fault, and nothing was written; or it is refused so later, and
-- some of the output was written.
abbrev pub RanOn : {W : Type 0} → (List ℕ → Type 0) → (Refuses Later : RunFault → Type 0) → Result Outcome RunFault → (W → Option (List ℕ)) → (W → ℕ) → W → W → Type 0
RanOn Is Refuses Later (Ok outcome) written failures old new = (outcome ≡ Good) × Writes Is (written old) (written new)
RanOn Is Refuses Later (Err fault) written failures old new = ((fault ≡ Write) × BreaksOff Is written failures old new)
    ⊎ ((Refuses fault × Keeps (written old) (written new)) ⊎ (Later fault × Grows (written old) (written new)))
