use Rattle.std.proofs.Common.{◌∙◌, Some, ap, sym, arith}
use Rattle.std.proofs.lemmas.Option.{slice_get-get_or}
use Rattle.comm_makings.proofs.Holders.{counted_more}
use Rattle.comm_makings.proofs.uses.named_by_all.Goals as goal

pub loop-at-preserved : goal.loop-at-preserved
loop-at-preserved c =
    rw c.in_ok-push.ensures.items
    (counted_more c.args.object c.args.ranks.now c.args.views.now c.loop-at.all.items c.loop-at.at c.index-ranks-at.result c.index-views-at.result c.in_ok-named_by.field-0 c.loop-at.invariant
    (slice_get-get_or c.args.ranks.now c.loop-at.at c.index-ranks-at.result c.loop-at-test.true ∙ ap Some (sym c.index-ranks-at.is))
    (slice_get-get_or c.args.views.now c.loop-at.at c.index-views-at.result (omega arith) ∙ ap Some (sym c.index-views-at.is)) c.in_ok-named_by.ensures)
