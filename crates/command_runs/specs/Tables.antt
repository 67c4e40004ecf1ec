-- What `calls` and `timeline` print, and why they stop.
use Rattle.std.specs.Prelude.{◌≡◌, ◌⊎◌, ℕ, List, Option, length}
use Rattle.mpi_model.specs.Layouts.{Parts}
use Rattle.run_files.specs.Manifests.{ManifestParts, PieceParts}
use Rattle.trace_ops.specs.Ops.{AreOwn, Ops}
use Rattle.command_runs.specs.Known.{OfAllTold}
use Rattle.command_runs.specs.Refusals.{RefusesOneOf}
use Rattle.command_runs.specs.Said.{IsDiagnosed}
use Rattle.run_inputs.specs.declared.faults.fault.RunFault.{RunFault}
use Rattle.run_inputs.specs.declared.faults.fault.RunFault.TheVariants.{Memory}

-- Every call is told of, by the answer to all that the pieces tell, for the layout. How a row is written has no
-- definition; which operation stands at its other end, and which round it entered, is defined in `call_table`.
abbrev pub IsTableOf : (List ℕ → Option (List ℕ)) → Parts → ManifestParts → List ℕ → Type 0
IsTableOf file l m text = OfAllTold file l m (λ view. IsDiagnosed l view)

-- A piece that was read before is refused when it is read again, for its file or its text, or memory is.
abbrev pub RefusesAgain : (List ℕ → Option (List ℕ)) → List PieceParts → RunFault → Type 0
RefusesAgain file pieces fault = (fault ≡ Memory) ⊎ RefusesOneOf file pieces fault

-- These are operations of so many ranks, each its rank's own.
abbrev pub HoldsRanks : ℕ → List Ops → Type 0
HoldsRanks count ops = (length ops ≡ count) × AreOwn 0 ops
