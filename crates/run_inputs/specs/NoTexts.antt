-- Why files that were to be texts are none.
use Rattle.std.specs.Prelude.{◌≡◌, ℕ, true, List, Option, Some, None, Contains}
use Rattle.text_notes.specs.Starts.{IsStartOf, is_to_be_unpacked}
use Rattle.text_notes.specs.declared.start.Start.{Start}
use Rattle.run_inputs.specs.WalkFaults.{IsNamed}
use Rattle.run_inputs.specs.declared.faults.fault.RunFault.TheVariants.{File}
use Rattle.run_inputs.specs.declared.faults.init_fault.InitFault.{InitFault}
use Rattle.run_inputs.specs.declared.faults.init_fault.InitFault.TheVariants.{Text, Piped, Strange}

-- The file begins so, and has to be unpacked or written anew before it can be read as a text.
abbrev pub HasToBeUnpacked : Start → Option (List ℕ) → Type 0
HasToBeUnpacked start file = (is_to_be_unpacked start ≡ true) × IsStartOf file start

-- A file of this name is no text: it can't be read, or not twice, as nothing tells its bytes; or it has to be unpacked
-- or written anew.
abbrev pub IsNoText : List ℕ → Option (List ℕ) → InitFault → Type 0
IsNoText name file (Text (File path)) = IsNamed path name × (file ≡ None)
IsNoText name file (Piped path) = IsNamed path name × (file ≡ None)
IsNoText name file (Strange path start) = IsNamed path name × HasToBeUnpacked start file
IsNoText name file _ = ⊥

-- One of these files is no text.
abbrev pub AreNoTexts : (List ℕ → Option (List ℕ)) → List (List ℕ) → InitFault → Type 0
AreNoTexts file names fault = (name : List ℕ) × Contains names name × IsNoText name (file name) fault
