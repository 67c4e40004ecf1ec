-- Nodes that the same facts reached.
use Rattle.std.specs.Prelude.{◌≡◌, ℕ, slice_index_or}
use Rattle.std.specs.List.{flat_map}
use Rattle.std.specs.FinMap.{empty}
use Rattle.trace_know.specs.Trace.{Trace, SameFacts, facts_of}
use Rattle.trace_know.specs.View.{View}
use Rattle.trace_node.specs.Answer.{Answered, IsAnswer}
use Rattle.trace_report.specs.Report.{report_text}
use Rattle.trace_world.specs.Schedule.{State, at}
use Rattle.trace_world.specs.Shows.{Shows, WorldState, knows}

-- the trace of all segments that reached a node
abbrev pub trace_at : State → ℕ → Trace
trace_at s node = flat_map facts_of (at s.reached node)

-- What reached both nodes has the same facts: the order of the segments, how the facts were cut into segments, and how
-- often one came make no difference.
abbrev pub ReachedAlike : State → ℕ → ℕ → Type 0
ReachedAlike s one other = SameFacts (trace_at s one) (trace_at s other)

-- what a node knows
abbrev pub know_at : WorldState → ℕ → View
know_at w node = slice_index_or (knows w.nodes) node empty

-- the nodes know the same
abbrev pub KnowAlike : WorldState → ℕ → ℕ → Type 0
KnowAlike w one other = know_at w one ≡ know_at w other

-- the answers to what the nodes know are equal
abbrev pub AnswerAlike : WorldState → ℕ → ℕ → Type 0
AnswerAlike w one other = (a b : Answered) → IsAnswer w.layout (know_at w one) a → IsAnswer w.layout (know_at w other) b → a ≡ b

-- the reports of those answers are equal, byte for byte
abbrev pub ReportAlike : WorldState → ℕ → ℕ → Type 0
ReportAlike w one other =
    (a b : Answered) → IsAnswer w.layout (know_at w one) a → IsAnswer w.layout (know_at w other) b → report_text a ≡ report_text b

-- It holds of any two nodes of a world that the same facts reached.
abbrev pub NodesReachedAlike : (WorldState → ℕ → ℕ → Type 0) → Type 0
NodesReachedAlike alike = (w : WorldState) (s : State) (one other : ℕ) → Shows w s → ReachedAlike s one other → alike w one other
