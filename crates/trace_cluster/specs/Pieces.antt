-- The pieces of a cluster, and what came of each.
use Rattle.std.specs.Prelude.{ℕ, ◌+◌, ◌<◌, ◌≤◌, List, [], ◌∷◌, ◌++◌, All, Contains}
use Rattle.mpi_model.specs.Layouts.{Parts}
use Rattle.trace_know.specs.Segment.{PlacedEvents}
use Rattle.trace_crew.specs.declared.queue.item.Worker.{Worker}
use Rattle.trace_crew.specs.declared.queue.item.Worker.TheVariants.{First, Second}
use Rattle.trace_crew.specs.declared.piece.TextPiece.{TextPiece}
use Rattle.trace_crew.specs.declared.piece.PieceAt.{PieceAt}
use Rattle.trace_crew.specs.Pieces.{GivesSegments, place_of}
use Rattle.trace_cluster.specs.declared.side.Side.{Side}
use Rattle.trace_cluster.specs.declared.side.Side.TheVariants as sides
use Rattle.trace_cluster.specs.declared.workload.Workload.{Workload}

-- a piece with its node, and where it stands there
pub record Placed : Type 0 where
  pub node : Side
  pub at : PieceAt
  pub piece : TextPiece

-- a piece with its node, its worker and its place
abbrev pub placed : Side → PieceAt → TextPiece → Placed
placed node at piece = record { node = node; at = at; piece = piece }

-- the pieces of a worker from a place on
abbrev pub placed_from : Side → Worker → ℕ → List TextPiece → List Placed
placed_from node worker place [] = []
placed_from node worker place (piece ∷ pieces) = placed node (place_of worker place) piece ∷ placed_from node worker (place + 1) pieces

-- the pieces of a node by worker and place
abbrev pub pieces_of : Side → Workload → List Placed
pieces_of node load = placed_from node First 0 load.first.items ++ placed_from node Second 0 load.second.items

-- all pieces by node, worker and place
abbrev pub all_pieces : Workload → Workload → List Placed
all_pieces first second = pieces_of sides.First first ++ pieces_of sides.Second second

-- Its segments were found.
abbrev pub IsWhole : TextPiece → Type 0
IsWhole piece = (segments : List PlacedEvents) × GivesSegments piece segments

-- They were found, and each is of a rank of the layout.
abbrev pub IsWithin : Parts → TextPiece → Type 0
IsWithin layout piece = (segments : List PlacedEvents) × GivesSegments piece segments × All (λ s. s.rank < layout.ranks) segments

-- They were found, and one is of a rank that the layout lacks.
abbrev pub IsForeign : Parts → TextPiece → Type 0
IsForeign layout piece = (segments : List PlacedEvents) × (segment : PlacedEvents) × GivesSegments piece segments × Contains segments segment × (layout.ranks ≤ segment.rank)
