-- Why `pack` writes nothing, and how its writing ends.
use Rattle.std.specs.Prelude.{◌≡◌, ◌⊎◌, ℕ, List, Option}
use Rattle.std.specs.FinMap.{entries}
use Rattle.std.specs.Io.KnownBytes.{Keeps}
use Rattle.mpi_model.specs.Layouts.{Parts}
use Rattle.trace_know.specs.View.{View}
use Rattle.trace_wire.specs.Packed.{HasLongCell, IsPacked}
use Rattle.trace_wire.specs.declared.fault.WireFault.TheVariants.{Length}
use Rattle.run_files.specs.Manifests.{ManifestParts}
use Rattle.command_runs.specs.Known.{OfAllTold}
use Rattle.command_runs.specs.Refusals.{RefusesNamed}
use Rattle.run_inputs.specs.Writing.{BreaksOff}
use Rattle.run_inputs.specs.declared.faults.fault.RunFault.{RunFault}
use Rattle.run_inputs.specs.declared.faults.fault.RunFault.TheVariants.{Memory, Frame, Write}

-- Why there is no pack: what the manifest names is refused; or one cell of what the pieces tell goes into no frame.
abbrev pub RefusesPack : (List ℕ → Option (List ℕ)) → Parts → ManifestParts → RunFault → Type 0
RefusesPack file l m fault = RefusesNamed file l.ranks m fault ⊎ ((fault ≡ Frame Length) × OfAllTold file l m (λ view. HasLongCell (entries view)))

-- Why what is known was not written. Nothing was, unless the writer failed.
abbrev pub IsUnwritten : {W : Type 0} → View → (W → Option (List ℕ)) → (W → ℕ) → W → W → RunFault → Type 0
IsUnwritten view written failures old new Memory = Keeps (written old) (written new)
IsUnwritten view written failures old new (Frame Length) = HasLongCell (entries view) × Keeps (written old) (written new)
IsUnwritten view written failures old new Write = BreaksOff (IsPacked view) written failures old new
IsUnwritten view written failures old new _ = ⊥
