-- The texts of pieces, by the node and the worker that they name.
use Rattle.std.specs.Prelude.{◌≡◌, ◌⊎◌, ◌&&◌, ◌==◌, ℕ, Bool, true, false, List, [], ◌∷◌, ◌++◌, Option, if◌then◌else◌}
use Rattle.std.specs.List.{All, filter}
use Rattle.trace_cluster.specs.declared.side.Side.{Side}
use Rattle.trace_cluster.specs.declared.side.Side.TheVariants as sides
use Rattle.trace_crew.specs.declared.queue.item.Worker.{Worker}
use Rattle.trace_crew.specs.declared.queue.item.Worker.TheVariants as workers
use Rattle.trace_crew.specs.declared.piece.TextPiece.{TextPiece}
use Rattle.trace_crew.specs.Views.{is_from}
use Rattle.trace_know.specs.View.{View}
use Rattle.run_files.specs.Manifests.{PieceParts}
use Rattle.run_inputs.specs.Files.{FitsIn, IsFile}
use Rattle.run_inputs.specs.Inputs.{RefusesFile}
use Rattle.command_runs.specs.Traces.{Begin}
use Rattle.run_inputs.specs.declared.faults.fault.RunFault.{RunFault}
use Rattle.run_inputs.specs.declared.faults.fault.RunFault.TheVariants.{Memory}
use Rattle.command_runs.specs.declared.pieces.node_texts.AllTexts.{AllTexts}
use Rattle.run_inputs.specs.declared.load.whole.TheConstants.{LONGEST_PIECE}

-- the node of a number: 0 is the first
abbrev pub side_of : ℕ → Side
side_of node = if node == 0 then sides.First else sides.Second

-- the worker of a number: 0 is the first
abbrev pub worker_of : ℕ → Worker
worker_of worker = if worker == 0 then workers.First else workers.Second

-- whether the two are one node
abbrev pub is_side : Side → Side → Bool
is_side sides.First sides.First = true
is_side sides.First sides.Second = false
is_side sides.Second sides.First = false
is_side sides.Second sides.Second = true

-- The piece names this node and this worker.
abbrev pub is_share : Side → Worker → PieceParts → Bool
is_share node worker piece = is_side node (side_of piece.node) && is_from worker (worker_of piece.worker)

-- those among these pieces, in their order
abbrev pub share_of : Side → Worker → List PieceParts → List PieceParts
share_of node worker pieces = filter (is_share node worker) pieces

-- the texts of a node's worker
abbrev pub share_in : AllTexts → Side → Worker → List TextPiece
share_in texts sides.First workers.First = texts.first.first.items
share_in texts sides.First workers.Second = texts.first.second.items
share_in texts sides.Second workers.First = texts.second.first.items
share_in texts sides.Second workers.Second = texts.second.second.items

-- This worker of this node has a text more, and no other has.
abbrev pub AddsText : Side → Worker → TextPiece → AllTexts → AllTexts → Type 0
AddsText node worker text old new = (one : Side) (by : Worker) → share_in new one by ≡ share_in old one by ++ (if is_side one node && is_from by worker then text ∷ [] else [])

-- what a node is told besides
abbrev pub known_in : AllTexts → Side → View
known_in texts sides.First = texts.first.known
known_in texts sides.Second = texts.second.known

-- The piece has its rank, its first call and the bytes of its file.
abbrev pub IsTextOf : (List ℕ → Option (List ℕ)) → PieceParts → TextPiece → Type 0
IsTextOf file piece text = (text.rank ≡ piece.rank) × (text.first ≡ piece.first) × IsFile (file piece.file) text.text.items

-- The texts are those of these pieces, in their order.
abbrev pub AreTextsOf : (List ℕ → Option (List ℕ)) → List PieceParts → List TextPiece → Type 0
AreTextsOf file [] texts = texts ≡ []
AreTextsOf file (piece ∷ pieces) texts = (text : TextPiece) × (rest : List TextPiece)
    × IsTextOf file piece text × AreTextsOf file pieces rest × (texts ≡ text ∷ rest)

-- Each worker of each node has the texts of its pieces.
abbrev pub AreShares : (List ℕ → Option (List ℕ)) → List PieceParts → AllTexts → Type 0
AreShares file pieces texts = (node : Side) (worker : Worker) → AreTextsOf file (share_of node worker pieces) (share_in texts node worker)

-- The file of a piece was read whole: it is no longer than a piece's may be, where its bytes are told.
abbrev pub WasRead : (List ℕ → Option (List ℕ)) → PieceParts → Type 0
WasRead file piece = FitsIn LONGEST_PIECE (file piece.file)

-- The file of a piece can't be read whole, by readers that fail so, and those of all pieces before it were.
abbrev pub RefusesBytes : Type 0 → (List ℕ → Option (List ℕ)) → List PieceParts → RunFault → Type 0
RefusesBytes fails file pieces fault = (fault ≡ Memory)
    ⊎ ((front : List PieceParts) × (piece : PieceParts) × Begin front piece pieces × All (WasRead file) front
    × RefusesFile LONGEST_PIECE fails piece.file (file piece.file) fault)
