use Rattle.std.proofs.Common.{◌≡◌, ◌∙◌, List, ap, sym, subst}
use Rattle.std.proofs.lemmas.List.{map-id}
use Rattle.std.proofs.lemmas.Iterator.Adapters.{YieldsList-from_vec}
use Rattle.std.proofs.lemmas.Iterator.Consumers.{YieldsList-end}
use Rattle.trace_know.specs.Segment.{PlacedEvents}
use Rattle.trace_know.specs.Trace.{facts_of, facts_of_all, view_of}
use Rattle.trace_know.specs.View.{View, join}
use Rattle.trace_know.proofs.AnyOrder.{one_more}
use Rattle.trace_know.proofs.Joins.{join-empty}
use Rattle.trace_know.proofs.gathering.join_each.Goals as goal

pub loop-piece-init : goal.loop-piece-init
loop-piece-init c = sym (join-empty c.args.know)

pub loop-piece-preserved : goal.loop-piece-preserved
loop-piece-preserved c =
    c.in_ok-take_piece.ensures.ok ∙ ap (λ (v : View). join v (view_of (facts_of c.in-Some.piece))) c.loop-piece.invariant
    ∙ one_more c.args.know c.loop-piece.yielded c.in-Some.piece

pub returns : goal.returns
returns c =
    let b = c.into_iter-piece-iterator.ensures.into_iter_gives in
    let road = YieldsList-from_vec {s = c.into_iter-piece-iterator.result} c.args.pieces.items b.0 (b.1 ∙ c.args.pieces.ok.0) in
    let all = YieldsList-end road c.loop-piece.yielded _ c.loop-piece.yielded_by _ c.next.new.self c.in-None.is c.next.ensures.steps in
    let same : c.loop-piece.yielded ≡ c.args.pieces.items = sym (map-id c.loop-piece.yielded) ∙ all.0 in
    subst (λ (ss : List PlacedEvents). c.loop-piece.all ≡ join c.args.know (view_of (facts_of_all ss))) same c.loop-piece.invariant
