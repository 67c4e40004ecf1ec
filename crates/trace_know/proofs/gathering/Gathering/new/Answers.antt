use Rattle.std.proofs.Common.{◌∙◌, List, ap₂}
use Rattle.std.specs.FinMap.{empty}
use Rattle.trace_know.specs.Segment.{PlacedEvents}
use Rattle.trace_know.specs.Trace.{facts_of_all, view_of}
use Rattle.trace_know.specs.View.{View, join}
use Rattle.trace_know.proofs.Joins.{join-empty}
use Rattle.trace_know.proofs.gathering.Gathering.new.Goals as goal

pub returns : goal.returns
returns c =
    ap₂ (λ (v : View) (ss : List PlacedEvents). join v (view_of (facts_of_all ss))) c.new.ensures c.new-2.ensures.items ∙ join-empty empty
