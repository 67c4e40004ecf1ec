use Rattle.std.proofs.Common.{◌∙◌, List, ap₂}
use Rattle.trace_know.specs.Segment.{PlacedEvents}
use Rattle.trace_know.specs.Trace.{facts_of_all, view_of}
use Rattle.trace_know.specs.View.{View, join}
use Rattle.trace_know.proofs.Joins.{join-empty}
use Rattle.trace_know.proofs.gathering.Gathering.joined.Goals as goal

pub returns : goal.returns
returns c =
    ap₂ (λ (v : View) (ss : List PlacedEvents). join v (view_of (facts_of_all ss))) c.in_ok-into_knowledge.ensures c.new.ensures.items ∙ join-empty c.args.self
