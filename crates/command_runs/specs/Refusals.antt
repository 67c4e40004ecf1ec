-- Why a run is refused.
use Rattle.std.specs.Prelude.{◌≡◌, ◌⊎◌, ℕ, List, Option, Contains, IsPermutation}
use Rattle.trace_know.specs.View.{View}
use Rattle.run_files.specs.Manifests.{ManifestParts, PieceParts}
use Rattle.command_runs.specs.Packed.{RefusesFirstPacked, TellPacked}
use Rattle.command_runs.specs.Pieces.{RefusesPiece}
use Rattle.command_runs.specs.Traces.{Begin, IsFirstStranger, IsKnown}
use Rattle.run_inputs.specs.declared.faults.fault.RunFault.{RunFault}
use Rattle.run_inputs.specs.declared.faults.fault.RunFault.TheVariants.{Memory, Rank}

-- A piece is refused for its file or its text, and all before it are whole.
abbrev pub RefusesFirst : (List ℕ → Option (List ℕ)) → List PieceParts → RunFault → Type 0
RefusesFirst file pieces fault = (front : List PieceParts) × (piece : PieceParts) × Begin front piece pieces
    × ((view : View) × IsKnown file front view) × RefusesPiece piece.file piece.first (file piece.file) fault

-- All pieces are whole, and the fault names the first stranger.
abbrev pub NamesStranger : (List ℕ → Option (List ℕ)) → ℕ → List PieceParts → RunFault → Type 0
NamesStranger file ranks pieces (Rank path) = ((view : View) × IsKnown file pieces view) × IsFirstStranger file ranks pieces path
NamesStranger file ranks pieces _ = ⊥

-- Why the pieces are refused: one of them is, for its file or its text, or, where none is, for its rank.
abbrev pub RefusesPieces : (List ℕ → Option (List ℕ)) → ℕ → List PieceParts → RunFault → Type 0
RefusesPieces file ranks pieces fault = (fault ≡ Memory) ⊎ (RefusesFirst file pieces fault ⊎ NamesStranger file ranks pieces fault)

-- The same pieces are so refused in some order.
abbrev pub RefusesInSomeOrder : (List ℕ → Option (List ℕ)) → ℕ → List PieceParts → RunFault → Type 0
RefusesInSomeOrder file ranks pieces fault = (others : List PieceParts) × IsPermutation pieces others × RefusesPieces file ranks others fault

-- One of the pieces is so refused, for its file or its text.
abbrev pub RefusesOneOf : (List ℕ → Option (List ℕ)) → List PieceParts → RunFault → Type 0
RefusesOneOf file pieces fault = (piece : PieceParts) × Contains pieces piece × RefusesPiece piece.file piece.first (file piece.file) fault

-- A piece that is so refused is of the file of this name, and so is each other piece of it, whatever its first call.
abbrev pub BlamesFile : List ℕ → RunFault → Type 0
BlamesFile name fault = (file : List ℕ) (first other : ℕ) (text : Option (List ℕ)) → RefusesPiece file first text fault
    → (file ≡ name) × RefusesPiece name other text fault

-- Why what a manifest names is refused: a packed file is; or, where all of them were read, the texts are.
abbrev pub RefusesNamed : (List ℕ → Option (List ℕ)) → ℕ → ManifestParts → RunFault → Type 0
RefusesNamed file ranks m fault = (fault ≡ Memory) ⊎ (RefusesFirstPacked file ranks m.packed fault
    ⊎ (((view : View) × TellPacked file ranks m.packed view) × RefusesPieces file ranks m.pieces fault))
