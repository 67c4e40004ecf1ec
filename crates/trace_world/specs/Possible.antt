-- Which steps of a schedule can be done.
use Rattle.std.specs.Prelude.{◌≡◌, None, List, [], ◌∷◌, map, false, ⊤}
use Rattle.mpi_model.specs.Layouts.{Parts}
use Rattle.trace_node.specs.Node.{held}
use Rattle.trace_wire.specs.Frames.{frame_of}
use Rattle.trace_world.specs.declared.step.Step.{Step}
use Rattle.trace_world.specs.Refusals.{refusal}
use Rattle.trace_world.specs.Schedule.{State, after}
use Rattle.trace_world.specs.Shows.{Shows, WorldState, knowledge_of}

-- The world of a layout that stands in a state of a schedule, each node with its answer.
abbrev pub world_in : Parts → State → WorldState
world_in layout s = record {
  layout = layout;
  nodes = map (λ segments. held layout (knowledge_of segments) false) s.reached;
  inboxes = s.inboxes;
  mails = map (λ m. frame_of (knowledge_of m)) s.mails;
}

-- Each of these steps can be done, in the state that those before it leave: nothing refuses it but want of memory.
abbrev pub CanDo : Parts → State → List Step → Type 0
CanDo layout s [] = ⊤
CanDo layout s (step ∷ steps) = (refusal (world_in layout s) step ≡ None) × CanDo layout (after step s) steps

-- Whatever state a world shows, each of these steps can be done from there, in turn.
abbrev pub Allows : WorldState → List Step → Type 0
Allows w steps = (s : State) → Shows w s → CanDo w.layout s steps
