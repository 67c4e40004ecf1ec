-- The packed files of two nodes: which are whose, and what they tell.
use Rattle.std.specs.Prelude.{◌≡◌, ℕ, List, Option, if◌then◌else◌}
use Rattle.std.specs.List.{filter}
use Rattle.trace_cluster.specs.declared.side.Side.{Side}
use Rattle.trace_cluster.specs.declared.side.Side.TheVariants as sides
use Rattle.trace_know.specs.View.{View, IsBelow, join}
use Rattle.run_files.specs.Manifests.{PackedParts}
use Rattle.command_runs.specs.Packed.{TellPacked}
use Rattle.command_runs.specs.NodeTexts.{is_side, side_of}
use Rattle.command_runs.specs.declared.pieces.shares.PackedShares.{PackedShares}
use Rattle.command_runs.specs.declared.pieces.shares.SoFar.{SoFar}

-- those of a node among these packed files, in their order
abbrev pub packed_share_of : Side → List PackedParts → List PackedParts
packed_share_of node packed = filter (λ piece. is_side node (side_of piece.node)) packed

-- what a node's packed files tell
abbrev pub told_to : PackedShares → Side → View
told_to shares sides.First = shares.first
told_to shares sides.Second = shares.second

-- what a node's packed files told so far
abbrev pub so_far : SoFar → Side → View
so_far told sides.First = told.first
so_far told sides.Second = told.second

-- This node has been told this too, and the other nothing more.
abbrev pub IsToldMore : Side → View → SoFar → SoFar → Type 0
IsToldMore node know old new = (one : Side) → so_far new one ≡ (if is_side one node then join (so_far old one) know else so_far old one)

-- Each node has what its packed files tell together, of ranks below a number.
abbrev pub TellShares : (List ℕ → Option (List ℕ)) → ℕ → List PackedParts → (Side → View) → Type 0
TellShares file ranks packed told = (node : Side) → TellPacked file ranks (packed_share_of node packed) (told node)

-- It knows what the packed files of this node tell together.
abbrev pub KnowsShare : (List ℕ → Option (List ℕ)) → ℕ → List PackedParts → Side → View → Type 0
KnowsShare file ranks packed node know = (view : View) × TellPacked file ranks (packed_share_of node packed) view × IsBelow view know
