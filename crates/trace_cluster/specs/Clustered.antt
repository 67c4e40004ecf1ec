-- What a cluster leaves.
use Rattle.std.specs.Prelude.{◌≡◌, false, List, All}
use Rattle.std.specs.List.{flat_map}
use Rattle.mpi_model.specs.Layouts.{Parts}
use Rattle.trace_know.specs.Segment.{PlacedEvents}
use Rattle.trace_know.specs.Trace.{facts_of, view_of}
use Rattle.trace_know.specs.View.{View, IsBelow}
use Rattle.trace_node.specs.Node.{Held}
use Rattle.trace_crew.specs.declared.piece.TextPiece.{TextPiece}
use Rattle.trace_crew.specs.Pieces.{GivesSegments}
use Rattle.trace_cluster.specs.declared.workload.Workload.{Workload}

-- The facts of a piece's whole text are known.
abbrev pub KnowsPiece : View → TextPiece → Type 0
KnowsPiece know piece = (segments : List PlacedEvents) × GivesSegments piece segments × IsBelow (view_of (flat_map facts_of segments)) know

-- A node of this layout knows each of its own pieces and what it is told besides, and has an answer to all that it
-- knows.
pub record KnowsOwn (layout : Parts) (load : Workload) (node : Held) : Type 0 where
  pub layout_is : node.layout ≡ layout
  pub fresh : node.is_stale ≡ false
  pub first : All (KnowsPiece node.know) load.first.items
  pub second : All (KnowsPiece node.know) load.second.items
  pub told : IsBelow load.known node.know
