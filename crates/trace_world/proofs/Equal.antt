-- Nodes that the same facts reached know the same.
use Rattle.std.proofs.Common.{◌≡◌, ℕ, [], ap, sym, ◌∙◌}
use Rattle.std.specs.Prelude.{slice_index_or}
use Rattle.std.specs.FinMap.{empty}
use Rattle.std.proofs.Math.ListN.{get_or-map}
use Rattle.trace_know.specs.Trace.{Trace, SameFacts, view_of}
use Rattle.trace_world.specs.Schedule.{State}
use Rattle.trace_world.specs.Shows.{WorldState, Shows, knowledge_of}
use Rattle.trace_world.specs.Equal.{ReachedAlike, trace_at, know_at}

-- a node knows what reached it tells
pub known : (w : WorldState) (s : State) (node : ℕ) → Shows w s → know_at w node ≡ view_of (trace_at s node)
known w s node h = ap (λ l. slice_index_or l node empty) h.knowledge ∙ get_or-map knowledge_of s.reached node []

pub alike : ((a b : Trace) → SameFacts a b → view_of a ≡ view_of b) → (w : WorldState) (s : State) (one other : ℕ) → Shows w s → ReachedAlike s one other → know_at w one ≡ know_at w other
alike same w s one other h facts = known w s one h ∙ same (trace_at s one) (trace_at s other) facts ∙ sym (known w s other h)
