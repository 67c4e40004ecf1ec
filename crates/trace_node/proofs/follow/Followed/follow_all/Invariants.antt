use Rattle.trace_node.specs.Following.{IsFollowedTo}
use Rattle.trace_node.proofs.follow.Followed.follow_all.Given as goal

abbrev pub invariant-loop-rank : goal.invariant-loop-rank
invariant-loop-rank l = IsFollowedTo l.layout l.know l.rank l.self
