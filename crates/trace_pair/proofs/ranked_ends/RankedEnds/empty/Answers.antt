use Rattle.trace_pair.proofs.ranked_ends.RankedEnds.empty.Goals as goal

pub returns : goal.returns
returns c = record { last = c.empty.ensures; below = λ u i. absurd i }
