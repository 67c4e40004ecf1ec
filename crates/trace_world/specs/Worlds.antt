-- What holds of every world.
use Rattle.std.specs.Prelude.{◌≡◌, ℕ, ◌<◌, ◌≤◌, Some, List, [], ◌∷◌, map, length, replicate, slice_index_or, ⊤}
use Rattle.std.specs.List.{slice_get}
use Rattle.std.specs.FinMap.{entries}
use Rattle.mpi_model.specs.Layouts.{Parts}
use Rattle.trace_know.specs.Segment.{PlacedEvents}
use Rattle.trace_know.specs.View.{View}
use Rattle.trace_node.specs.Node.{Held, IsWithin}
use Rattle.trace_wire.specs.Frames.{frame_of, HasFrame}
use Rattle.trace_world.specs.Schedule.{at}
use Rattle.trace_world.specs.Shows.{most_nodes}

-- the layouts of the nodes
abbrev pub layouts : List Held → List Parts
layouts nodes = map (λ n. n.layout) nodes

-- The layout of this node has the rank.
abbrev pub HasRank : List Held → ℕ → ℕ → Type 0
HasRank nodes node rank = (layout : Parts) → slice_get (layouts nodes) node ≡ Some layout → rank < layout.ranks

-- The segments are of ranks of the layout.
abbrev pub AreWithin : Parts → List PlacedEvents → Type 0
AreWithin layout [] = ⊤
AreWithin layout (segment ∷ segments) = (segment.rank < layout.ranks) × AreWithin layout segments

-- The bytes are the frame of no view but of ranks of the layout.
abbrev pub IsWithinFrame : Parts → List ℕ → Type 0
IsWithinFrame layout bytes = (view : View) → bytes ≡ frame_of view → HasFrame (entries view) → IsWithin layout view

-- The bytes are the frame of some view.
abbrev pub IsFrame : List ℕ → Type 0
IsFrame bytes = (view : View) × (bytes ≡ frame_of view) × HasFrame (entries view)

-- Nodes of one layout, an inbox for each, and nothing in the inboxes and mails of a rank that the layout lacks.
pub record IsWorld (layout : Parts) (nodes : List Held) (inboxes : List (List PlacedEvents)) (mails : List (List ℕ)) : Type 0 where
  pub some : 0 < length nodes
  pub few : length nodes ≤ most_nodes
  pub each : length inboxes ≡ length nodes
  pub one_layout : layouts nodes ≡ replicate (length nodes) layout
  pub posted : (i : ℕ) → AreWithin layout (at inboxes i)
  pub mailed : (i : ℕ) → i < length mails → IsWithinFrame layout (slice_index_or mails i [])
