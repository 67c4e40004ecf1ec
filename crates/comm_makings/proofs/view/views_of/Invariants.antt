use Rattle.comm_makings.proofs.ViewSteps.{AreViewsTo}
use Rattle.comm_makings.proofs.view.views_of.Given as goal

abbrev pub invariant-loop-rank : goal.invariant-loop-rank
invariant-loop-rank l = AreViewsTo l.world l.ranks l.views.items l.rank-index
