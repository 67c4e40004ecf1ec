use Rattle.std.proofs.Common.{◌∙◌, Some, ap, sym}
use Rattle.std.proofs.lemmas.Option.{slice_get-get_or}
use Rattle.comm_makings.proofs.ViewSteps.{views_all, views_more, views_none}
use Rattle.comm_makings.proofs.view.views_of.Goals as goal

pub loop-rank-init : goal.loop-rank-init
loop-rank-init c = rw c.new-views.ensures.items (views_none c.args.world c.args.ranks.now)

pub loop-rank-preserved : goal.loop-rank-preserved
loop-rank-preserved c =
    rw c.in_ok-push.ensures.items
    (views_more c.args.world c.args.ranks.now c.loop-rank.views.items c.loop-rank.rank-index c.rank-item.result c.in_ok-view_of.field-0 c.loop-rank.invariant
    (slice_get-get_or c.args.ranks.now c.loop-rank.rank-index c.rank-item.result c.loop-rank-test.true ∙ ap Some (sym c.rank-item.is)) c.in_ok-view_of.ensures)

pub returns : goal.returns
returns c = views_all c.args.world c.args.ranks.now c.loop-rank.views.items c.loop-rank.rank-index c.loop-rank.invariant c.loop-rank.auto.rank-index-end c.loop-rank-test.false
