use Rattle.std.proofs.Common.{◌∙◌, ◌++◌, List, ap}
use Rattle.comm_makings.specs.Left.{left_in}
use Rattle.comm_makings.specs.declared.answer.LeftOut.{LeftOut}
use Rattle.comm_makings.proofs.Places.{numbers_joined}
use Rattle.comm_makings.proofs.left.left_out.Goals as goal

pub loop-rank-preserved : goal.loop-rank-preserved
loop-rank-preserved c =
    let f = left_in c.args.ranks.now c.args.views.now c.args.uses.now c.args.standings.now in
    c.in_ok-add_left.ensures ∙ ap (λ (l : List LeftOut). l ++ f c.loop-rank.rank) c.loop-rank.invariant ∙ numbers_joined f c.loop-rank.rank
