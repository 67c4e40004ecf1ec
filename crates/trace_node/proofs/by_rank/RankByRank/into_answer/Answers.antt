use Rattle.trace_node.proofs.by_rank.RankByRank.into_answer.Goals as goal

pub returns : goal.returns
returns c view are = (c.in_ok-told.ensures view are).0
