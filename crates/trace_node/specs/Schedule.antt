-- One node of a schedule, as plain lists of segments: what a post and a take make of it.
use Rattle.std.specs.Prelude.{List, [], ◌∷◌, ◌++◌, drop, take}
use Rattle.trace_know.specs.Segment.{PlacedEvents}

-- the segments that wait in the node's inbox, and those that reached it
pub record NodeState : Type 0 where
  pub inbox : List PlacedEvents
  pub reached : List PlacedEvents

-- a node of a schedule
abbrev pub node_state : List PlacedEvents → List PlacedEvents → NodeState
node_state inbox reached = record { inbox = inbox; reached = reached }

-- A post adds a segment to the inbox.
abbrev pub with_post : PlacedEvents → NodeState → NodeState
with_post segment s = node_state (s.inbox ++ segment ∷ []) s.reached

-- A take moves the inbox's front to what reached the node.
abbrev pub with_take : NodeState → NodeState
with_take s = node_state (drop 1 s.inbox) (s.reached ++ take 1 s.inbox)
