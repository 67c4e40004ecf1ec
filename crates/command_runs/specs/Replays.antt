-- What a replay prints, and why it is refused.
use Rattle.std.specs.Prelude.{◌≡◌, ◌⊎◌, ◌<◌, ◌≤◌, ◌++◌, ℕ, suc, false, List, [], ◌∷◌, Option, Some, codes, decimal, map, take, slice_index_or}
use Rattle.std.specs.List.{slice_get}
use Rattle.mpi_model.specs.Layouts.{Parts}
use Rattle.trace_know.specs.Segment.{PlacedEvents}
use Rattle.trace_node.specs.Answer.{Answered, IsAnswer}
use Rattle.trace_node.specs.Node.{Held, held}
use Rattle.trace_report.specs.Report.{report_text}
use Rattle.trace_world.specs.Possible.{CanDo, world_in}
use Rattle.trace_world.specs.Refusals.{refusal, stale}
use Rattle.trace_world.specs.Schedule.{after_all, opening}
use Rattle.trace_world.specs.Shows.{knowledge_of, most_nodes}
use Rattle.trace_world.specs.declared.step.Step.{Step}
use Rattle.trace_world.specs.declared.step.WorldFault.{WorldFault}
use Rattle.trace_world.specs.declared.step.WorldFault.TheVariants as worlds
use Rattle.run_files.specs.Manifests.{ManifestParts}
use Rattle.command_runs.specs.Refusals.{RefusesFirst}
use Rattle.command_runs.specs.Schedules.{TellSegments, world_steps}
use Rattle.run_inputs.specs.declared.faults.fault.RunFault.{RunFault}
use Rattle.run_inputs.specs.declared.faults.fault.RunFault.TheVariants as faults
use Rattle.run_inputs.specs.declared.faults.fault.StepCause.{StepCause}
use Rattle.run_inputs.specs.declared.faults.fault.StepCause.TheVariants as causes

-- ---- nodes

-- What so many nodes hold after these steps: each knows what the segments that reached it tell, and none is without its
-- answer.
abbrev pub nodes_after : Parts → ℕ → List Step → List Held
nodes_after l nodes steps = map (λ reached. held l (knowledge_of reached) false) (after_all steps (opening nodes)).reached

-- There is a world of so many nodes, and each of these steps can be done in it, in turn.
pub record CanReplay (l : Parts) (nodes : ℕ) (steps : List Step) : Type 0 where
  pub some : 0 < nodes
  pub few : nodes ≤ most_nodes
  pub each : CanDo l (opening nodes) steps

-- Each of these steps can be done, in turn, and they leave these nodes.
abbrev pub AreLeft : Parts → ℕ → List Step → List Held → Type 0
AreLeft l nodes steps left = CanReplay l nodes steps × (left ≡ nodes_after l nodes steps)

-- The manifest's schedule can be replayed, of pieces with the texts of their files, and the nodes hold what it leaves.
abbrev pub AreNodesOf : (List ℕ → Option (List ℕ)) → Parts → ManifestParts → List Held → Type 0
AreNodesOf file l m nodes = (lists : List (List PlacedEvents)) × TellSegments file m.pieces lists × AreLeft l m.nodes (world_steps lists m.schedule) nodes

-- No node is without its answer.
abbrev pub NoneStale : List Held → Type 0
NoneStale nodes = (i : ℕ) → slice_index_or (stale nodes) i false ≡ false

-- the answers of these nodes, in their order
abbrev pub AreAnswers : List Held → List Answered → Type 0
AreAnswers [] [] = Unit {0}
AreAnswers [] (answer ∷ answers) = ⊥
AreAnswers (node ∷ nodes) [] = ⊥
AreAnswers (node ∷ nodes) (answer ∷ answers) = IsAnswer node.layout node.know answer × AreAnswers nodes answers

-- ---- what is printed

-- `node N`
abbrev pub node_line : ℕ → List ℕ
node_line n = codes "node " ++ decimal n ++ codes "\n"

-- `node N`, and the report of the node
abbrev pub node_text : ℕ → Answered → List ℕ
node_text n answer = node_line n ++ report_text answer

-- the nodes from this number on
abbrev pub node_texts : ℕ → List Answered → List ℕ
node_texts n [] = []
node_texts n (answer ∷ answers) = node_text n answer ++ node_texts (suc n) answers

-- the text of a replay: all nodes, from 0 on
abbrev pub replay_text : List Answered → List ℕ
replay_text answers = node_texts 0 answers

-- The line and the report of each of these nodes.
abbrev pub IsTextOf : List Held → List ℕ → Type 0
IsTextOf nodes text = (answers : List Answered) × AreAnswers nodes answers × (text ≡ replay_text answers)

-- The line and the report of each of the first nodes.
abbrev pub BeginsTextOf : List Held → List ℕ → Type 0
BeginsTextOf nodes text = (count : ℕ) × IsTextOf (take count nodes) text

-- The text of a replay: the line and the report of each node that the schedule leaves.
abbrev pub IsReplayOf : (List ℕ → Option (List ℕ)) → Parts → ManifestParts → List ℕ → Type 0
IsReplayOf file l m text = (nodes : List Held) × AreNodesOf file l m nodes × IsTextOf nodes text

-- The text of the first nodes of a replay.
abbrev pub BeginsReplayOf : (List ℕ → Option (List ℕ)) → Parts → ManifestParts → List ℕ → Type 0
BeginsReplayOf file l m text = (nodes : List Held) × AreNodesOf file l m nodes × BeginsTextOf nodes text

-- ---- why a replay is refused

-- A step is the first that can't be done, and this is why: the state refuses it that the steps before it leave.
pub record RefusesStep (l : Parts) (nodes : ℕ) (steps : List Step) (k : ℕ) (fault : WorldFault) : Type 0 where
  pub step : Step
  pub at : slice_get steps k ≡ Some step
  pub before : CanReplay l nodes (take k steps)
  pub refuses : refusal (world_in l (after_all (take k steps) (opening nodes))) step ≡ Some fault

-- the fault of a world for which a step can't be done
abbrev pub world_fault : StepCause → WorldFault
world_fault causes.NoNode = worlds.NoNode
world_fault causes.NoMail = worlds.NoMail
world_fault causes.EmptyInbox = worlds.EmptyInbox
world_fault causes.Rank = worlds.Rank
world_fault causes.FrameLength = worlds.FrameLength
world_fault causes.NodeCount = worlds.NodeCount

-- What the end of a run at a step is to a replay: memory was wanting, for the step or for its node's answer, or the
-- step can't be done.
abbrev pub stop_of : WorldFault → ℕ → RunFault
stop_of worlds.Stale k = faults.Memory
stop_of worlds.Memory k = faults.Memory
stop_of worlds.NoNode k = faults.Step causes.NoNode k
stop_of worlds.NoMail k = faults.Step causes.NoMail k
stop_of worlds.EmptyInbox k = faults.Step causes.EmptyInbox k
stop_of worlds.Rank k = faults.Step causes.Rank k
stop_of worlds.FrameLength k = faults.Step causes.FrameLength k
stop_of worlds.NodeCount k = faults.Step causes.NodeCount k

-- Why so many nodes don't do these steps: they are none or too many, or one step can't be done.
abbrev pub RefusesSteps : Parts → ℕ → List Step → RunFault → Type 0
RefusesSteps l nodes steps faults.Memory = Unit {0}
RefusesSteps l nodes steps faults.NodeCount = (nodes ≡ 0) ⊎ (most_nodes < nodes)
RefusesSteps l nodes steps (faults.Step cause k) = RefusesStep l nodes steps k (world_fault cause)
RefusesSteps l nodes steps _ = ⊥

-- Why there is no replay: a piece is refused, for its file or its text; or, where none is, a step.
abbrev pub RefusesReplay : (List ℕ → Option (List ℕ)) → Parts → ManifestParts → RunFault → Type 0
RefusesReplay file l m fault = (fault ≡ faults.Memory) ⊎ (RefusesFirst file m.pieces fault
    ⊎ ((lists : List (List PlacedEvents)) × TellSegments file m.pieces lists × RefusesSteps l m.nodes (world_steps lists m.schedule) fault))
