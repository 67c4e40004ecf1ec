use Rattle.trace_node.proofs.ByRank.{taken_next}
use Rattle.trace_node.proofs.by_rank.RankByRank.taking.Goals as goal

pub returns : goal.returns
returns c layout rank know is view was of =
    taken_next c.prefix_laws.ensures.events c.prefix_laws.ensures.one_list c.prefix_laws.ensures.beyond c.join_laws.ensures.cells c.listing_laws.ensures.conflicts c.listing_laws.ensures.conflicts_rise
    layout view know rank c.args.told c.args.self _ was of is c.in_ok-reading.ensures c.in_ok-push-2.ensures.items c.in_ok-push.ensures.items
