-- What a world is to a caller, and how it stands for the state of a schedule.
use Rattle.std.specs.Prelude.{◌≡◌, ℕ, List, [], ◌∷◌, map, ⊤}
use Rattle.std.specs.List.{flat_map}
use Rattle.std.specs.FinMap.{entries}
use Rattle.mpi_model.specs.Layouts.{Parts}
use Rattle.trace_know.specs.Segment.{PlacedEvents}
use Rattle.trace_know.specs.Trace.{facts_of, view_of}
use Rattle.trace_know.specs.View.{View}
use Rattle.trace_node.specs.Node.{Held}
use Rattle.trace_wire.specs.Frames.{frame_of, HasFrame}
use Rattle.trace_world.specs.declared.step.Step.{Step}
use Rattle.trace_world.specs.Schedule.{State, after_all}

-- the greatest number of nodes of a world
abbrev pub most_nodes : ℕ
most_nodes = 64

-- What segments tell together: the view of all their facts.
abbrev pub knowledge_of : List PlacedEvents → View
knowledge_of segments = view_of (flat_map facts_of segments)

-- What a caller sees of a world: the layout of its nodes, what each of them holds, the segments in each inbox, and the
-- bytes of each mail.
pub record WorldState : Type 0 where
  pub layout : Parts
  pub nodes : List Held
  pub inboxes : List (List PlacedEvents)
  pub mails : List (List ℕ)

-- what a world holds
abbrev pub world_state : Parts → List Held → List (List PlacedEvents) → List (List ℕ) → WorldState
world_state layout nodes inboxes mails = record { layout = layout; nodes = nodes; inboxes = inboxes; mails = mails }

-- what the nodes know
abbrev pub knows : List Held → List View
knows nodes = map (λ n. n.know) nodes

-- Each of the mails has a frame.
abbrev pub AllFramed : List (List PlacedEvents) → Type 0
AllFramed [] = ⊤
AllFramed (mail ∷ mails) = HasFrame (entries (knowledge_of mail)) × AllFramed mails

-- A world shows a state: each node knows what the segments that reached it tell together, the inboxes are equal, and
-- each mail is the frame, which exists, of what its segments tell.
pub record Shows (w : WorldState) (s : State) : Type 0 where
  pub knowledge : knows w.nodes ≡ map knowledge_of s.reached
  pub inboxes : w.inboxes ≡ s.inboxes
  pub mails : w.mails ≡ map (λ m. frame_of (knowledge_of m)) s.mails
  pub framed : AllFramed s.mails

-- Whatever state the old world shows, the new one shows the state after these steps.
abbrev pub Follows : WorldState → List Step → WorldState → Type 0
Follows old steps new = (s : State) → Shows old s → Shows new (after_all steps s)
