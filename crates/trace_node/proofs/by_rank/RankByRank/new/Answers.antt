use Rattle.trace_node.proofs.ByRank.{below_none}
use Rattle.trace_node.proofs.by_rank.RankByRank.new.Goals as goal

pub returns : goal.returns
returns c layout = record { below = below_none; reading = c.none.ensures; ops = c.new.ensures.items; walls = c.new-2.ensures.items }
