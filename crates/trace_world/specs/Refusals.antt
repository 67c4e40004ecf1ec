-- Why steps are refused, and what is left then.
use Rattle.std.specs.Prelude.{◌≡◌, ◌⊎◌, ℕ, ◌+◌, ◌<◌, ◌≤◌, Bool, true, false, Result, Ok, Err, Option, Some, None, List, [], ◌∷◌, map, length, nat_lt, slice_index_or, ⊤, if◌then◌else◌}
use Rattle.std.specs.List.{slice_get}
use Rattle.std.specs.FinMap.{empty, entries}
use Rattle.trace_know.specs.Segment.{PlacedEvents}
use Rattle.trace_know.specs.View.{View}
use Rattle.trace_node.specs.Node.{Held}
use Rattle.trace_wire.specs.Frames.{payload, longest}
use Rattle.trace_world.specs.declared.step.Step.{Step}
use Rattle.trace_world.specs.declared.step.Step.TheVariants.{Post, Take, Ship, Deliver, Restart}
use Rattle.trace_world.specs.declared.step.StepFault.{StepFault}
use Rattle.trace_world.specs.declared.step.WorldFault.{WorldFault}
use Rattle.trace_world.specs.declared.step.WorldFault.TheVariants.{NoNode, NoMail, EmptyInbox, Rank, FrameLength, Stale, NodeCount, Memory}
use Rattle.trace_world.specs.Schedule.{at}
use Rattle.trace_world.specs.Shows.{WorldState, knows, most_nodes}

-- an empty inbox has no front
abbrev pub no_front : List PlacedEvents → Option WorldFault
no_front [] = Some EmptyInbox
no_front (segment ∷ segments) = None

-- what is known would be too long for a frame
abbrev pub too_long : View → Option WorldFault
too_long view = if nat_lt longest (length (payload (entries view))) then Some FrameLength else None

-- what else refuses a step of a node that is there
abbrev pub refusal_there : WorldState → Step → Option WorldFault
refusal_there w (Post worker node segment) = if nat_lt segment.rank w.layout.ranks then None else Some Rank
refusal_there w (Take node) = no_front (at w.inboxes node)
refusal_there w (Ship node) = too_long (slice_index_or (knows w.nodes) node empty)
refusal_there w (Deliver mail node) = if nat_lt mail (length w.mails) then None else Some NoMail
refusal_there w (Restart node) = None

-- the node that a step is about
abbrev pub node_of : Step → ℕ
node_of (Post worker node segment) = node
node_of (Take node) = node
node_of (Ship node) = node
node_of (Deliver mail node) = node
node_of (Restart node) = node

-- Why a step can't be done, whatever memory there is.
abbrev pub refusal : WorldState → Step → Option WorldFault
refusal w step = if nat_lt (node_of step) (length w.nodes) then refusal_there w step else Some NoNode

-- A step that can't be done is refused for that. Any other is done, or refused for want of memory, or done without an
-- answer.
abbrev pub IsOutcome : Option WorldFault → Result (Unit {0}) WorldFault → Type 0
IsOutcome (Some fault) result = result ≡ Err fault
IsOutcome None (Ok done) = ⊤
IsOutcome None (Err Stale) = ⊤
IsOutcome None (Err Memory) = ⊤
IsOutcome None (Err NoNode) = ⊥
IsOutcome None (Err NoMail) = ⊥
IsOutcome None (Err EmptyInbox) = ⊥
IsOutcome None (Err Rank) = ⊥
IsOutcome None (Err FrameLength) = ⊥
IsOutcome None (Err NodeCount) = ⊥

-- A step was done: it was accepted, or it only left its node without an answer.
abbrev pub is_done : Result (Unit {0}) WorldFault → Bool
is_done (Ok done) = true
is_done (Err Stale) = true
is_done (Err NoNode) = false
is_done (Err NoMail) = false
is_done (Err EmptyInbox) = false
is_done (Err Rank) = false
is_done (Err FrameLength) = false
is_done (Err NodeCount) = false
is_done (Err Memory) = false

-- how many steps were done of a run that ended at this step for this
abbrev pub done_at : ℕ → WorldFault → ℕ
done_at k Stale = k + 1
done_at k NoNode = k
done_at k NoMail = k
done_at k EmptyInbox = k
done_at k Rank = k
done_at k FrameLength = k
done_at k NodeCount = k
done_at k Memory = k

-- how many steps were done of a run that ended so
abbrev pub done : StepFault → ℕ
done e = done_at e.step e.fault

-- a run ended at this step for this
abbrev pub ended_at : ℕ → WorldFault → StepFault
ended_at k fault = record { step = k; fault = fault }

-- A run ended at one of its steps. Where that step was not done, the world that is left refuses it so.
abbrev pub StopsAt : WorldState → List Step → StepFault → Type 0
StopsAt w steps e = (step : Step) × (slice_get steps e.step ≡ Some step) × (is_done (Err e.fault) ≡ false → IsOutcome (refusal w step) (Err e.fault))

-- which nodes have no answer
abbrev pub stale : List Held → List Bool
stale nodes = map (λ n. n.is_stale) nodes

-- No node that had an answer has lost it.
abbrev pub NoneStaler : List Held → List Held → Type 0
NoneStaler old new = (i : ℕ) → slice_index_or (stale old) i false ≡ false → slice_index_or (stale new) i false ≡ false

-- the nodes are as many as before, for the same layout
pub record SameNodes (old new : WorldState) : Type 0 where
  pub layout : new.layout ≡ old.layout
  pub count : length new.nodes ≡ length old.nodes

-- why there is no frame of what is known: it would be too long, or there is no memory for it
abbrev pub IsFrameFault : View → WorldFault → Type 0
IsFrameFault view FrameLength = longest < length (payload (entries view))
IsFrameFault view Memory = length (payload (entries view)) ≤ longest
IsFrameFault view NoNode = ⊥
IsFrameFault view NoMail = ⊥
IsFrameFault view EmptyInbox = ⊥
IsFrameFault view Rank = ⊥
IsFrameFault view Stale = ⊥
IsFrameFault view NodeCount = ⊥

-- why there is no world of so many nodes
abbrev pub IsCountFault : ℕ → WorldFault → Type 0
IsCountFault nodes NodeCount = (nodes ≡ 0) ⊎ (most_nodes < nodes)
IsCountFault nodes Memory = (0 < nodes) × (nodes ≤ most_nodes)
IsCountFault nodes NoNode = ⊥
IsCountFault nodes NoMail = ⊥
IsCountFault nodes EmptyInbox = ⊥
IsCountFault nodes Rank = ⊥
IsCountFault nodes FrameLength = ⊥
IsCountFault nodes Stale = ⊥
