use Rattle.std.proofs.Common.{◌∙◌, List, ap, sym}
use Rattle.trace_know.specs.Segment.{PlacedEvents}
use Rattle.trace_know.specs.Trace.{facts_of, facts_of_all, view_of}
use Rattle.trace_know.specs.View.{View, join}
use Rattle.trace_know.proofs.AnyOrder.{one_more}
use Rattle.trace_know.proofs.gathering.Gathering.holding.Goals as goal

pub returns : goal.returns
returns c =
    let inside = c.self.inside in
    ap (λ (ss : List PlacedEvents). join inside.know (view_of (facts_of_all ss))) c.in_ok-push.ensures.items
    ∙ sym (one_more inside.know inside.held.items c.args.piece)
    ∙ ap (λ (v : View). join v (view_of (facts_of c.args.piece))) c.self.view_is
