-- How the program ends: its status, what it wrote, and what it showed.
use Rattle.std.specs.Prelude.{◌≡◌, ◌≢◌, ◌⊎◌, ◌∷◌, ◌++◌, ℕ, Bool, false, List, [], Option, Some, None, Result, Ok, Err, IfErr, codes, length, string_bytes}
use Rattle.std.specs.Io.KnownBytes.{Keeps}
use Rattle.clap.specs.Words.{Text, subcommand_of}
use Rattle.mpi_model.specs.declared.device.WriteReason.{WriteReason}
use Rattle.mpi_model.specs.Failures.{HasFailed}
use Rattle.mpi_model.specs.Layouts.{Parts}
use Rattle.mpi_model.specs.declared.layout.Sends.TheVariants.{Wait}
use Rattle.command_line.specs.Program.{Refuses, Request, Wish, asked_rank, cluster, files, init, pair, program, request_in, status_of}
use Rattle.command_line.specs.declared.CommandFault.{CommandFault}
use Rattle.command_line.specs.declared.Verb.{Verb}
use Rattle.run_files.specs.Manifests.{ManifestParts}
use Rattle.run_files.specs.Stores.{Files}
use Rattle.text_layouts.specs.declared.made.Made.{Made}
use Rattle.run_inputs.specs.Advice.{IsShownIn, is_in_words}
use Rattle.run_inputs.specs.FaultLines.{fault_line_of}
use Rattle.run_inputs.specs.FileNames.{shown_name}
use Rattle.run_inputs.specs.Files.{IsLength, NamesFailed}
use Rattle.run_inputs.specs.Folders.{NamesNoFolder, StandForAll}
use Rattle.run_inputs.specs.InitAdvice.{IsInitShown}
use Rattle.run_inputs.specs.InitFaults.{init_fault_line_of}
use Rattle.run_inputs.specs.Inits.{RanInit}
use Rattle.run_inputs.specs.Inputs.{LacksRank, RefusesLoading, TellInput}
use Rattle.run_inputs.specs.Looks.{BeginsAsText}
use Rattle.run_inputs.specs.NoTexts.{AreNoTexts}
use Rattle.run_inputs.specs.Prepared.{IsMadeOf}
use Rattle.run_inputs.specs.SaidLines.{init_line_with, write_line}
use Rattle.run_inputs.specs.Seen.{NamesPiped, Reads, RefusesLooks, RefusesTexts, Sees, cut_names}
use Rattle.command_runs.specs.Verbs.{Ran, RanCluster}
use Rattle.run_inputs.specs.declared.faults.fault.RunFault.{RunFault}
use Rattle.run_inputs.specs.declared.faults.fault.RunFault.TheVariants.{Memory}
use Rattle.run_inputs.specs.declared.faults.init_fault.InitFault.{InitFault}
use Rattle.run_inputs.specs.declared.faults.init_fault.InitFault.TheVariants.{Outside as NoRank}
use Rattle.command_runs.specs.declared.run.Outcome.{Outcome}
use Rattle.command_runs.specs.declared.run.Outcome.TheVariants.{Good, CheckFailed}
use Rattle.program_runs.specs.declared.ending.Ending.{Ending}

-- ---- a run

-- The status after a run that answered so, and what is shown: its fault, in words or by its line alone.
abbrev pub IsEndedBy : Bool → (List ℕ → Option (List ℕ)) → Result Outcome RunFault → Ending → Type 0
IsEndedBy in_words file (Ok Good) e = (e.status ≡ 0) × (string_bytes e.errors ≡ [])
IsEndedBy in_words file (Ok CheckFailed) e = (e.status ≡ 1) × (string_bytes e.errors ≡ [])
IsEndedBy in_words file (Err fault) e = (e.status ≡ 1) × IsShownIn in_words file fault (string_bytes e.errors)

-- A verb ran over this layout and this manifest, over readers that fail so, and the program ends so.
abbrev pub EndsRun : {W : Type 0} → Type 0 → (List ℕ → Option (List ℕ)) → Verb → Parts → ManifestParts → (W → Option (List ℕ)) → (W → ℕ) → W → W → Ending → Type 0
EndsRun fails file verb l m written failures old new e = (ran : Result Outcome RunFault) × Ran file verb l m ran written failures old new
    × IfErr ran (NamesFailed fails) × IsEndedBy (is_in_words verb) file ran e

-- Nothing is written, and this fault is shown, in words or by its line alone.
abbrev pub EndsShowing : {W : Type 0} → Bool → (List ℕ → Option (List ℕ)) → RunFault → W → W → Ending → Type 0
EndsShowing in_words file fault old new e = (new ≡ old) × (e.status ≡ 1) × IsShownIn in_words file fault (string_bytes e.errors)

-- ---- `init`

-- the ending after such a run of `init`
abbrev pub IsEndedInit : Result (Unit {0}) InitFault → Ending → Type 0
IsEndedInit (Ok done) e = (e.status ≡ 0) × (string_bytes e.errors ≡ [])
IsEndedInit (Err fault) e = (e.status ≡ 1) × (reason : Option WriteReason) × (string_bytes e.errors ≡ init_line_with fault reason)

-- `init` ends so.
abbrev pub EndsInit : {W : Type 0} → (List ℕ → Option (List ℕ)) → List (List ℕ) → Wish → Option Files → Option Files → Type 0 → (W → Option (List ℕ)) → (W → ℕ) → W → W → Ending → Type 0
EndsInit file words wish old new failed written failures before after e = (ran : Result (Unit {0}) InitFault) × IsEndedInit ran e
    × RanInit file words wish old new failed ran written failures before after

-- ---- by what the words ask for

-- A verb over this layout and this manifest ends so: it ran, over what is kept of the texts that may have been cut off;
-- or one of these can't be looked at.
abbrev pub EndsKept : {W : Type 0} → Type 0 → (List ℕ → Option (List ℕ)) → Verb → Parts → ManifestParts → (W → Option (List ℕ)) → (W → ℕ) → W → W → Ending → Type 0
EndsKept fails file verb l m written failures old new e =
    ((seen : List ℕ → Option (List ℕ)) × Sees file (cut_names m.pieces) seen × EndsRun fails seen verb l m written failures old new e)
    ⊎ ((fault : RunFault) × RefusesLooks (cut_names m.pieces) fault × EndsShowing (is_in_words verb) file fault old new e)

-- A verb over the files of a layout and a manifest ends so: it ran over what they tell, or they are refused.
abbrev pub EndsPair : {W : Type 0} → Type 0 → (List ℕ → Option (List ℕ)) → Verb → Text → Text → (W → Option (List ℕ)) → (W → ℕ) → W → W → Ending → Type 0
EndsPair fails file verb layout manifest written failures old new e =
    ((l : Parts) × (m : ManifestParts) × TellInput file layout manifest l m × EndsKept fails file verb l m written failures old new e)
    ⊎ ((fault : RunFault) × RefusesLoading fails file (asked_rank verb) layout manifest fault × EndsShowing (is_in_words verb) file fault old new e)

-- The texts are refused, or one is no file that can be read twice; nothing is written, and this is shown.
abbrev pub EndsUnmade : {W : Type 0} → (List ℕ → Option (List ℕ)) → Verb → List Text → W → W → Ending → Type 0
EndsUnmade file verb texts old new e = (fault : InitFault) × (NamesPiped file texts fault ⊎ RefusesTexts file texts fault)
    × (new ≡ old) × (e.status ≡ 1) × IsInitShown file verb fault (string_bytes e.errors)

-- A verb over the texts of all ranks ends so: they are refused; or it ran over the input that is made of them, each
-- text read whole or as far as it is kept; or that has no such rank as the verb asks for.
abbrev pub EndsTexts : {W : Type 0} → Type 0 → (List ℕ → Option (List ℕ)) → Verb → List Text → (W → Option (List ℕ)) → (W → ℕ) → W → W → Ending → Type 0
EndsTexts fails file verb texts written failures old new e = EndsUnmade file verb texts old new e
    ⊎ ((seen : List ℕ → Option (List ℕ)) × Reads file texts seen × (made : Made) × IsMadeOf seen Wait texts made
    × (EndsRun fails seen verb made.input.layout made.input.manifest written failures old new e
    ⊎ (LacksRank (asked_rank verb) made.input.layout × (new ≡ old) × (e.status ≡ 1)
    × IsInitShown file verb (NoRank made.input.layout.ranks) (string_bytes e.errors))))

-- The first of these files that isn't empty begins as the text of a trace.
abbrev pub BeginsWithText : (List ℕ → Option (List ℕ)) → List Text → Type 0
BeginsWithText file [] = ⊥
BeginsWithText file (first ∷ names) = BeginsAsText (file first) ⊎ (IsLength (file first) 0 × BeginsWithText file names)

-- the name of the first of some files
abbrev pub first_name : List Text → Text
first_name [] = []
first_name (first ∷ names) = first

-- the line that is shown of files that are no texts, and not two
abbrev pub strange_line : List Text → List ℕ
strange_line names = codes "mpimatch: " ++ shown_name (first_name names)
    ++ codes " can't be read as a trace text: name the texts of all ranks, or a layout and a manifest\n"

-- Files that are no texts, and not two, are refused: one can't be read, or has to be unpacked; or the words are
-- mistaken.
abbrev pub EndsStrange : (List ℕ → Option (List ℕ)) → Verb → List Text → Ending → Type 0
EndsStrange file verb names e = ((fault : InitFault) × AreNoTexts file names fault × (e.status ≡ 1) × IsInitShown file verb fault (string_bytes e.errors))
    ⊎ ((e.status ≡ 2) × (string_bytes e.errors ≡ strange_line names))

-- A verb over its files ends so: over texts, where the first that isn't empty begins as one; or over a layout and a
-- manifest, where they are two; or they are refused, and nothing is written.
abbrev pub EndsFiles : {W : Type 0} → Type 0 → (List ℕ → Option (List ℕ)) → Verb → List Text → (W → Option (List ℕ)) → (W → ℕ) → W → W → Ending → Type 0
EndsFiles fails file verb names written failures old new e = (BeginsWithText file names × EndsTexts fails file verb names written failures old new e)
    ⊎ (((layout manifest : Text) × (names ≡ layout ∷ manifest ∷ []) × EndsPair fails file verb layout manifest written failures old new e)
    ⊎ ((length names ≢ 2) × (new ≡ old) × EndsStrange file verb names e))

-- A verb over the files that its words name ends so: over the names for which the words stand, or one of them stands
-- for none, and nothing is written.
abbrev pub EndsNamed : {W : Type 0} → Type 0 → (List ℕ → Option (List ℕ)) → Verb → List Text → (W → Option (List ℕ)) → (W → ℕ) → W → W → Ending → Type 0
EndsNamed fails file verb words written failures old new e =
    ((names : List Text) × StandForAll file words names × EndsFiles fails file verb names written failures old new e)
    ⊎ ((fault : InitFault) × NamesNoFolder file words fault × (new ≡ old) × (e.status ≡ 1) × IsInitShown file verb fault (string_bytes e.errors))

-- `init` over the texts that its words name ends so: over the names for which the words stand, or one of them stands
-- for none, and nothing is written or kept.
abbrev pub EndsInitNamed : {W : Type 0} → (List ℕ → Option (List ℕ)) → List Text → Wish → Option Files → Option Files → Type 0 → (W → Option (List ℕ)) → (W → ℕ) → W → W → Ending → Type 0
EndsInitNamed file words wish before after failed written failures old new e =
    ((names : List Text) × StandForAll file words names × EndsInit file names wish before after failed written failures old new e)
    ⊎ ((fault : InitFault) × NamesNoFolder file words fault × (after ≡ before) × (new ≡ old) × (e.status ≡ 1) × (string_bytes e.errors ≡ init_fault_line_of fault))

-- A cluster ran over this layout and this manifest, over readers that fail so, and the program ends so.
abbrev pub EndsClusterRun : {W : Type 0} → Type 0 → (List ℕ → Option (List ℕ)) → Parts → ManifestParts → (W → Option (List ℕ)) → (W → ℕ) → W → W → Ending → Type 0
EndsClusterRun fails file l m written failures old new e = (ran : Result Outcome RunFault)
    × RanCluster fails file l m ran written failures old new × IfErr ran (NamesFailed ⊥) × IsEndedBy false file ran e

-- A cluster over this layout and this manifest ends so: it ran, over what is kept of the texts that may have been cut
-- off; or one of these can't be looked at.
abbrev pub EndsClusterKept : {W : Type 0} → Type 0 → (List ℕ → Option (List ℕ)) → Parts → ManifestParts → (W → Option (List ℕ)) → (W → ℕ) → W → W → Ending → Type 0
EndsClusterKept fails file l m written failures old new e =
    ((seen : List ℕ → Option (List ℕ)) × Sees file (cut_names m.pieces) seen × EndsClusterRun fails seen l m written failures old new e)
    ⊎ ((fault : RunFault) × RefusesLooks (cut_names m.pieces) fault × EndsShowing false file fault old new e)

-- A cluster of the files of a layout and a manifest ends so: it ran over what they tell, or they are refused.
abbrev pub EndsCluster : {W : Type 0} → Type 0 → (List ℕ → Option (List ℕ)) → Text → Text → (W → Option (List ℕ)) → (W → ℕ) → W → W → Ending → Type 0
EndsCluster fails file layout manifest written failures old new e =
    ((l : Parts) × (m : ManifestParts) × TellInput file layout manifest l m × EndsClusterKept fails file l m written failures old new e)
    ⊎ ((fault : RunFault) × RefusesLoading fails file None layout manifest fault × EndsShowing false file fault old new e)

-- What the program is run on, and what it leaves: the words, the files that it reads, and the store in which `init`
-- keeps its two.
pub record Surroundings : Type 0 where
  pub words : List Text
  pub file : List ℕ → Option (List ℕ)
  pub store_before : Option Files
  pub store_after : Option Files

-- What the words ask for ends so, over readers that fail so and a store that has failed meanwhile.
abbrev pub EndsAsked : {W : Type 0} → Type 0 → Type 0 → Surroundings → Request → (W → Option (List ℕ)) → (W → ℕ) → W → W → Ending → Type 0
EndsAsked fails failed s (pair verb verbosity layout manifest) written failures old new e =
    EndsPair fails s.file verb layout manifest written failures old new e × (s.store_after ≡ s.store_before)
EndsAsked fails failed s (files verb verbosity names) written failures old new e =
    EndsNamed fails s.file verb names written failures old new e × (s.store_after ≡ s.store_before)
EndsAsked fails failed s (cluster layout manifest) written failures old new e =
    EndsCluster fails s.file layout manifest written failures old new e × (s.store_after ≡ s.store_before)
EndsAsked fails failed s (init texts wish) written failures old new e =
    EndsInitNamed s.file texts wish s.store_before s.store_after failed written failures old new e

-- ---- the program

-- The words ask for nothing, for this cause, and the program ends so: its text was written, or a write failed; or
-- memory was wanting; or its text was shown.
abbrev pub EndsFor : {W : Type 0} → CommandFault → (W → Option (List ℕ)) → (W → ℕ) → W → W → Ending → Type 0
EndsFor fault written failures old new e =
    ((e.status ≡ 0) × (string_bytes e.errors ≡ []) × (0 ≡ status_of fault) × (failures new ≡ failures old))
    ⊎ (((e.status ≡ 1) × ((reason : Option WriteReason) × (string_bytes e.errors ≡ write_line reason)) × (0 ≡ status_of fault) × HasFailed (failures old) (failures new))
    ⊎ (((e.status ≡ 1) × (string_bytes e.errors ≡ fault_line_of Memory) × Keeps (written old) (written new))
    ⊎ ((e.status ≡ 2) × (2 ≡ status_of fault) × Keeps (written old) (written new))))

-- The program ends so: as what the words ask for ends, or they ask for nothing.
abbrev pub IsEnding : {W : Type 0} → Type 0 → Type 0 → Surroundings → (W → Option (List ℕ)) → (W → ℕ) → W → W → Ending → Type 0
IsEnding fails failed s written failures old new e =
    ((request : Request) × (request_in (subcommand_of program s.words) ≡ Some request) × EndsAsked fails failed s request written failures old new e)
    ⊎ ((fault : CommandFault) × Refuses s.words fault × EndsFor fault written failures old new e × (s.store_after ≡ s.store_before))
