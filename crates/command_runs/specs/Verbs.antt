-- What each verb prints, and why it is refused.
use Rattle.std.specs.Prelude.{◌≡◌, ◌⊎◌, ℕ, List, Option, Result, Ok, Err, true}
use Rattle.std.specs.Io.KnownBytes.{Keeps}
use Rattle.mpi_model.specs.Layouts.{Parts}
use Rattle.trace_check.specs.Checker.{IsCheckOf}
use Rattle.trace_wire.specs.Packed.{IsPacked}
use Rattle.command_line.specs.declared.Verb.{Verb}
use Rattle.command_line.specs.declared.Verb.TheVariants.{Explain, ExplainJson, ExplainRank, Graph, Page, Report, ReportJson, Calls, Timeline, Replay, Check, CheckJson, Pack}
use Rattle.run_files.specs.Manifests.{ManifestParts}
use Rattle.command_runs.specs.CheckJson.{check_json}
use Rattle.command_runs.specs.Clusters.{IsClusterOf, RefusesCluster}
use Rattle.command_runs.specs.Explains.{IsExplainOf}
use Rattle.command_runs.specs.Known.{OfAllTold}
use Rattle.command_runs.specs.Packs.{RefusesPack}
use Rattle.command_runs.specs.Pages.{IsPageOf}
use Rattle.command_runs.specs.Refusals.{RefusesNamed}
use Rattle.command_runs.specs.Replays.{BeginsReplayOf, IsReplayOf, RefusesReplay}
use Rattle.command_runs.specs.Said.{IsReported, IsReportedJson}
use Rattle.command_runs.specs.Streams.{RanOn}
use Rattle.command_runs.specs.Tables.{IsTableOf, RefusesAgain}
use Rattle.run_inputs.specs.Writing.{BreaksOff, Writes}
use Rattle.run_inputs.specs.declared.faults.fault.RunFault.{RunFault}
use Rattle.run_inputs.specs.declared.faults.fault.RunFault.TheVariants.{Write}
use Rattle.command_runs.specs.declared.run.Outcome.{Outcome}
use Rattle.command_runs.specs.declared.run.Outcome.TheVariants.{Good}

-- What a verb prints over this layout and this manifest, whole.
abbrev pub IsOutputOf : (List ℕ → Option (List ℕ)) → Verb → Parts → ManifestParts → List ℕ → Type 0
IsOutputOf file (Explain extent) l m text = IsExplainOf file l m text
IsOutputOf file ExplainJson l m text = IsExplainOf file l m text
IsOutputOf file (ExplainRank rank) l m text = IsExplainOf file l m text
IsOutputOf file (Graph extent) l m text = IsExplainOf file l m text
IsOutputOf file Page l m text = IsPageOf file l m text
IsOutputOf file Report l m text = OfAllTold file l m (λ view. IsReported l view text)
IsOutputOf file ReportJson l m text = OfAllTold file l m (λ view. IsReportedJson l view text)
IsOutputOf file (Calls form) l m text = IsTableOf file l m text
IsOutputOf file (Timeline window) l m text = IsTableOf file l m text
IsOutputOf file Replay l m text = IsReplayOf file l m text
IsOutputOf file Check l m text = OfAllTold file l m (λ view. IsCheckOf l view text)
IsOutputOf file CheckJson l m text = OfAllTold file l m (λ view. (lines : List ℕ) × IsCheckOf l view lines × (text ≡ check_json true lines))
IsOutputOf file Pack l m text = OfAllTold file l m (λ view. IsPacked view text)

-- What a verb prints begins so: its output whole, or the first nodes of a replay.
abbrev pub BeginsOutputOf : (List ℕ → Option (List ℕ)) → Verb → Parts → ManifestParts → List ℕ → Type 0
BeginsOutputOf file Replay l m text = BeginsReplayOf file l m text
BeginsOutputOf file verb l m text = IsOutputOf file verb l m text

-- Why a verb prints nothing.
abbrev pub RefusesVerb : (List ℕ → Option (List ℕ)) → Verb → Parts → ManifestParts → RunFault → Type 0
RefusesVerb file Replay l m fault = RefusesReplay file l m fault
RefusesVerb file Pack l m fault = RefusesPack file l m fault
RefusesVerb file verb l m fault = RefusesNamed file l.ranks m fault

-- Output or refusal: a run answered so, and a writer tells its bytes and its failures before and after. Its output was
-- written whole, and all that was checked held; or the writer failed, and the output broke off; or the run is refused
-- for this fault, and nothing was written.
abbrev pub RanSo : {W : Type 0} → (Is Begins : List ℕ → Type 0) → (RunFault → Type 0) → Result Outcome RunFault → (W → Option (List ℕ)) → (W → ℕ) → W → W → Type 0
RanSo Is Begins Refuses (Ok outcome) written failures old new = (outcome ≡ Good) × Writes Is (written old) (written new)
RanSo Is Begins Refuses (Err fault) written failures old new = ((fault ≡ Write) × BreaksOff Begins written failures old new)
    ⊎ (Refuses fault × Keeps (written old) (written new))

-- A verb ran so that writes what it prints at its end, or, of `calls` and `timeline`, while it reads a second time.
abbrev pub Ran : {W : Type 0} → (List ℕ → Option (List ℕ)) → Verb → Parts → ManifestParts → Result Outcome RunFault → (W → Option (List ℕ)) → (W → ℕ) → W → W → Type 0
Ran file (Calls form) l m = RanOn (IsTableOf file l m) (RefusesNamed file l.ranks m) (RefusesAgain file m.pieces)
Ran file (Timeline window) l m = RanOn (IsTableOf file l m) (RefusesNamed file l.ranks m) (RefusesAgain file m.pieces)
Ran file verb l m = RanSo (IsOutputOf file verb l m) (BeginsOutputOf file verb l m) (RefusesVerb file verb l m)

-- A cluster ran so, over readers that fail so.
abbrev pub RanCluster : {W : Type 0} → Type 0 → (List ℕ → Option (List ℕ)) → Parts → ManifestParts → Result Outcome RunFault → (W → Option (List ℕ)) → (W → ℕ) → W → W → Type 0
RanCluster fails file l m = RanSo (IsClusterOf file l m) (IsClusterOf file l m) (RefusesCluster fails file l.ranks m)
