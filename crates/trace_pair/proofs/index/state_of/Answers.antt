use Rattle.std.proofs.Common.{List, subst, sym}
use Rattle.trace_pair.specs.After.{comes_after}
use Rattle.trace_pair.specs.Reach.{AreReachesOf}
use Rattle.trace_pair.specs.declared.reach.RankReach.{RankReach}
use Rattle.trace_pair.proofs.index.state_of.Goals as goal

pub add_ranks-requires : goal.add_ranks-requires
add_ranks-requires c = subst (λ (l : List RankReach). AreReachesOf c.args.held.now l) (sym c.deref.ensures.value) c.in_ok-table.ensures

pub returns : goal.returns
returns c = record { single = c.requires.single; sets = c.in_ok-add_ranks.ensures c.requires.own c.requires.single (c.empty-sets.ensures (comes_after c.args.held.now)); table = c.in_ok-table.ensures }
