use Rattle.trace_pair.proofs.ranked_ends.RankedEnds.may_take.Goals as goal

pub returns : goal.returns
returns c = λ xs s. c.may_take.ensures xs s.last
