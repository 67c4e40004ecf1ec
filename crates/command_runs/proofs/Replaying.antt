-- The parts of a replay.
use Rattle.std.proofs.Common.{◌≡◌, ◌⊎◌, inl, inr, ℕ, List, Option, subst}
use Rattle.mpi_model.specs.Layouts.{Parts}
use Rattle.trace_know.specs.Segment.{PlacedEvents}
use Rattle.trace_node.specs.Node.{Held}
use Rattle.trace_world.specs.declared.step.Step.{Step}
use Rattle.run_files.specs.Manifests.{ManifestParts}
use Rattle.command_runs.specs.Refusals.{RefusesFirst}
use Rattle.command_runs.specs.Replays.{AreLeft, AreNodesOf, RefusesReplay, RefusesSteps}
use Rattle.command_runs.specs.Schedules.{TellSegments, world_steps}
use Rattle.run_inputs.specs.declared.faults.fault.RunFault.{RunFault}
use Rattle.run_inputs.specs.declared.faults.fault.RunFault.TheVariants.{Memory}

-- a piece is refused, or memory was wanting
pub piece_refused : (file : List ℕ → Option (List ℕ)) (l : Parts) (m : ManifestParts) (fault : RunFault) → (fault ≡ Memory) ⊎ RefusesFirst file m.pieces fault → RefusesReplay file l m fault
piece_refused file l m fault (inl e) = inl e
piece_refused file l m fault (inr h) = inr (inl h)

-- the steps of the schedule are refused
pub steps_refused : (file : List ℕ → Option (List ℕ)) (l : Parts) (m : ManifestParts) (lists : List (List PlacedEvents)) (nodes : ℕ) (steps : List Step) (fault : RunFault)
    → TellSegments file m.pieces lists → nodes ≡ m.nodes → steps ≡ world_steps lists m.schedule → RefusesSteps l nodes steps fault → RefusesReplay file l m fault
steps_refused file l m lists nodes steps fault tell n s h =
    inr (inr (lists, tell, subst (λ (ss : List Step). RefusesSteps l m.nodes ss fault) s (subst (λ (count : ℕ). RefusesSteps l count steps fault) n h)))

-- the steps were done
pub nodes_left : (file : List ℕ → Option (List ℕ)) (l : Parts) (m : ManifestParts) (lists : List (List PlacedEvents)) (count : ℕ) (steps : List Step) (nodes : List Held)
    → TellSegments file m.pieces lists → count ≡ m.nodes → steps ≡ world_steps lists m.schedule → AreLeft l count steps nodes → AreNodesOf file l m nodes
nodes_left file l m lists count steps nodes tell n s h =
    (lists, tell, subst (λ (ss : List Step). AreLeft l m.nodes ss nodes) s (subst (λ (k : ℕ). AreLeft l k steps nodes) n h))
