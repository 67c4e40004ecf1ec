-- The fault of a walk, as that of a run.
use Rattle.std.specs.Prelude.{◌≡◌, ℕ, List, String, string_bytes}
use Rattle.std.specs.declared.alloc.Global.{Global}
use Rattle.dumpi_text.specs.declared.fault.TextFault.TheVariants.{At}
use Rattle.dumpi_calls.specs.declared.collect.Memory.{Memory as NoMemory}
use Rattle.dumpi_calls.specs.declared.fault.WalkCause.{WalkCause}
use Rattle.dumpi_calls.specs.declared.fault.WalkCause.TheVariants as causes
use Rattle.dumpi_calls.specs.declared.fault.WalkFault.{WalkFault}
use Rattle.run_inputs.specs.declared.faults.fault.RunFault.{RunFault}
use Rattle.run_inputs.specs.declared.faults.fault.RunFault.TheVariants.{Memory, Text, Missing, Wrong}

-- The path is this name.
abbrev pub IsNamed : String Global → List ℕ → Type 0
IsNamed path name = string_bytes path ≡ name

-- The fault of a run stands for the fault of a walk, and names the file.
abbrev pub IsWalkFault : List ℕ → WalkFault NoMemory → RunFault → Type 0
IsWalkFault name fault Memory = Unit {0}
IsWalkFault name fault (Text cause path line) = IsNamed path name × (fault.cause ≡ causes.Text (At line cause))
IsWalkFault name fault (Missing parameter path line) = IsNamed path name × (fault.cause ≡ causes.Missing parameter) × (line ≡ fault.line)
IsWalkFault name fault (Wrong parameter path line) = IsNamed path name × (fault.cause ≡ causes.Wrong parameter) × (line ≡ fault.line)
IsWalkFault name fault _ = ⊥

-- Nothing that the text says stopped the walk.
abbrev pub IsNotOfText : WalkCause NoMemory → Type 0
IsNotOfText (causes.Text (At line cause)) = ⊥
IsNotOfText (causes.Missing parameter) = ⊥
IsNotOfText (causes.Wrong parameter) = ⊥
IsNotOfText _ = Unit {0}

-- Want of memory is told only of a walk that nothing in the text stopped.
abbrev pub IsWantOrTold : WalkCause NoMemory → RunFault → Type 0
IsWantOrTold cause Memory = IsNotOfText cause
IsWantOrTold cause _ = Unit {0}
