-- The input of a run, from its files, and why it is refused.
use Rattle.std.specs.Prelude.{◌≡◌, ◌<◌, ◌≤◌, ◌⊎◌, ℕ, List, Option, None, Some, String, ⊤}
use Rattle.std.specs.declared.alloc.Global.{Global}
use Rattle.mpi_model.specs.Layouts.{Parts}
use Rattle.run_files.specs.Layouts.{IsLayoutOf, RefusesLayout}
use Rattle.run_files.specs.Manifests.{IsManifestOf, ManifestParts, RefusesManifest}
use Rattle.run_files.specs.declared.fault.InputFault.{InputFault}
use Rattle.run_files.specs.declared.fault.InputFault.TheVariants as inputs
use Rattle.run_files.specs.declared.input.TheConstants.{LONGEST_FILE}
use Rattle.run_inputs.specs.Files.{IsFile, IsUnreadable}
use Rattle.run_inputs.specs.WalkFaults.{IsNamed}
use Rattle.run_inputs.specs.declared.faults.fault.RunFault.{RunFault}
use Rattle.run_inputs.specs.declared.faults.fault.RunFault.TheVariants.{Memory, File, Json, Shape, Piece, Packed, Layout, Outside}
use Rattle.run_inputs.specs.declared.load.whole.WholeFault.{WholeFault}
use Rattle.run_inputs.specs.declared.load.whole.WholeFault.TheVariants as wholes

-- The file can't be opened: memory was refused, or its bytes aren't known, and the fault names it.
abbrev pub RefusesOpening : List ℕ → Option (List ℕ) → RunFault → Type 0
RefusesOpening name file fault = (fault ≡ Memory) ⊎ ((path : String Global) × (fault ≡ File path) × IsNamed path name × (file ≡ None))

-- The file, which may have so many bytes, can't be read whole, by readers that fail so, and the fault names it.
abbrev pub RefusesFile : ℕ → Type 0 → List ℕ → Option (List ℕ) → RunFault → Type 0
RefusesFile most fails name file fault = (fault ≡ Memory) ⊎ ((path : String Global) × (fault ≡ File path) × IsNamed path name × IsUnreadable most fails file)

-- memory wasn't wanting
abbrev pub IsNoWant : WholeFault → Type 0
IsNoWant wholes.Memory = ⊥
IsNoWant cause = Unit {0}

-- The fault says that a file is not read whole for this cause, and names it.
abbrev pub IsWholeFaultOf : List ℕ → WholeFault → RunFault → Type 0
IsWholeFaultOf name cause Memory = Unit {0}
IsWholeFaultOf name cause (File path) = IsNamed path name × IsNoWant cause
IsWholeFaultOf name cause _ = ⊥

-- The fault is that of the file's text, and names it.
abbrev pub IsFaultOf : List ℕ → InputFault → RunFault → Type 0
IsFaultOf name inputs.Memory fault = fault ≡ Memory
IsFaultOf name (inputs.Json at along) (Json path line column) = IsNamed path name × (line ≡ at) × (column ≡ along)
IsFaultOf name (inputs.Shape unreadable) (Shape path field) = IsNamed path name × (field ≡ unreadable)
IsFaultOf name inputs.Piece (Piece path) = IsNamed path name
IsFaultOf name inputs.Packed (Packed path) = IsNamed path name
IsFaultOf name (inputs.Layout broken) (Layout fault path) = (fault ≡ broken) × IsNamed path name
IsFaultOf name _ _ = ⊥

-- A layout or a manifest is refused: its file, or its text, which the fault names.
abbrev pub RefusesInput : (List ℕ → InputFault → Type 0) → Type 0 → List ℕ → Option (List ℕ) → RunFault → Type 0
RefusesInput refuses fails name file fault = RefusesFile LONGEST_FILE fails name file fault
    ⊎ ((bytes : List ℕ) × (cause : InputFault) × IsFile file bytes × refuses bytes cause × IsFaultOf name cause fault)

-- The file tells this layout.
abbrev pub TellsLayout : Option (List ℕ) → Parts → Type 0
TellsLayout file l = (bytes : List ℕ) × IsFile file bytes × IsLayoutOf bytes l

-- The file tells this manifest.
abbrev pub TellsManifest : Option (List ℕ) → ManifestParts → Type 0
TellsManifest file m = (bytes : List ℕ) × IsFile file bytes × IsManifestOf bytes m

-- The files of these two names tell this layout and this manifest.
abbrev pub TellInput : (List ℕ → Option (List ℕ)) → List ℕ → List ℕ → Parts → ManifestParts → Type 0
TellInput file layout manifest l m = TellsLayout (file layout) l × TellsManifest (file manifest) m

-- The layout has the rank that is asked for, where one is.
abbrev pub HasRank : Option ℕ → Parts → Type 0
HasRank None l = ⊤
HasRank (Some rank) l = rank < l.ranks

-- A rank is asked for that the layout doesn't have.
abbrev pub LacksRank : Option ℕ → Parts → Type 0
LacksRank None l = ⊥
LacksRank (Some rank) l = l.ranks ≤ rank

-- Why there is no input: the layout is refused; or it doesn't have the rank that is asked for, which is seen before the
-- manifest is read; or the manifest is refused.
abbrev pub RefusesLoading : Type 0 → (List ℕ → Option (List ℕ)) → Option ℕ → List ℕ → List ℕ → RunFault → Type 0
RefusesLoading fails file rank layout manifest fault = RefusesInput RefusesLayout fails layout (file layout) fault
    ⊎ ((l : Parts) × TellsLayout (file layout) l
    × (((fault ≡ Outside) × LacksRank rank l) ⊎ RefusesInput RefusesManifest fails manifest (file manifest) fault))
