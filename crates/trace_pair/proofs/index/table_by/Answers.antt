use Rattle.std.proofs.Common.{List, subst, sym}
use Rattle.trace_pair.specs.Kept.{IfSets, IsFollowed}
use Rattle.trace_pair.specs.Reach.{AreReachesOf}
use Rattle.trace_pair.specs.declared.index.Following.{Following}
use Rattle.trace_pair.specs.declared.reach.RankReach.{RankReach}
use Rattle.trace_pair.proofs.index.table_by.Goals as goal

pub of_held-requires-clause-reaches : goal.of_held-requires-clause-reaches
of_held-requires-clause-reaches c =
    let is = subst (λ (f : Following). IfSets f (IsFollowed c.args.held.now)) c.in-By.is c.requires.followed in
    subst (λ (l : List RankReach). AreReachesOf c.args.held.now l) (sym c.deref.ensures.value) is.table
