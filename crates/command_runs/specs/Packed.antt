-- What the packed files of a manifest tell together, and why one of them is refused.
use Rattle.std.specs.Prelude.{◌≡◌, ◌⊎◌, ℕ, List, [], ◌∷◌, ◌++◌, Option, None}
use Rattle.std.specs.FinMap.{empty}
use Rattle.trace_know.specs.View.{View, join}
use Rattle.trace_wire.specs.Packed.{RefusesCause, Unpacks}
use Rattle.trace_wire.specs.declared.packed.fault.PackedFault.{PackedFault}
use Rattle.run_files.specs.Manifests.{PackedParts}
use Rattle.run_inputs.specs.WalkFaults.{IsNamed}
use Rattle.run_inputs.specs.declared.faults.fault.RunFault.{RunFault}
use Rattle.run_inputs.specs.declared.faults.fault.RunFault.TheVariants.{Memory, File, PackedFrame}

-- What these files tell together: each has frames of ranks below a number.
abbrev pub TellPacked : (List ℕ → Option (List ℕ)) → ℕ → List PackedParts → View → Type 0
TellPacked file ranks [] view = view ≡ empty
TellPacked file ranks (piece ∷ packed) view = (own : View) × (rest : View)
    × Unpacks ranks (file piece.file) own × TellPacked file ranks packed rest × (view ≡ join own rest)

-- The fault of a run stands for that of a frame, and names the file.
abbrev pub IsFrameFault : List ℕ → PackedFault → RunFault → Type 0
IsFrameFault name fault Memory = Unit {0}
IsFrameFault name fault (PackedFrame cause path frame) = IsNamed path name × (cause ≡ fault.cause) × (frame ≡ fault.frame)
IsFrameFault name fault _ = ⊥

-- Why a packed file is refused: it can't be opened, so its bytes aren't known; or the frame of a number is refused.
abbrev pub RefusesPackedFile : List ℕ → ℕ → Option (List ℕ) → RunFault → Type 0
RefusesPackedFile name ranks bytes Memory = Unit {0}
RefusesPackedFile name ranks bytes (File path) = IsNamed path name × (bytes ≡ None)
RefusesPackedFile name ranks bytes (PackedFrame cause path frame) =
    IsNamed path name × ((before : ℕ) × (now : ℕ) × RefusesCause ranks bytes before now frame cause)
RefusesPackedFile name ranks bytes _ = ⊥

-- A packed file is refused, and all before it were read.
abbrev pub RefusesFirstPacked : (List ℕ → Option (List ℕ)) → ℕ → List PackedParts → RunFault → Type 0
RefusesFirstPacked file ranks packed fault = (front : List PackedParts) × (piece : PackedParts) × (back : List PackedParts)
    × (packed ≡ front ++ piece ∷ back) × ((view : View) × TellPacked file ranks front view)
    × RefusesPackedFile piece.file ranks (file piece.file) fault

-- Why packed files tell nothing: memory was wanting, or one of them is refused.
abbrev pub RefusesPacked : (List ℕ → Option (List ℕ)) → ℕ → List PackedParts → RunFault → Type 0
RefusesPacked file ranks packed fault = (fault ≡ Memory) ⊎ RefusesFirstPacked file ranks packed fault

-- Two packed files tell the same in the other order.
abbrev pub OrderDoesNotShow : Type 0
OrderDoesNotShow = (file : List ℕ → Option (List ℕ)) (ranks : ℕ) (one other : PackedParts) (packed : List PackedParts) (view : View)
    → TellPacked file ranks (one ∷ other ∷ packed) view → TellPacked file ranks (other ∷ one ∷ packed) view

-- A packed file that comes twice tells what it tells once.
abbrev pub TwiceDoesNotShow : Type 0
TwiceDoesNotShow = (file : List ℕ → Option (List ℕ)) (ranks : ℕ) (one : PackedParts) (packed : List PackedParts) (view : View)
    → TellPacked file ranks (one ∷ packed) view → TellPacked file ranks (one ∷ one ∷ packed) view
