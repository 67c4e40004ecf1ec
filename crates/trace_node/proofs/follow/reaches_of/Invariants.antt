use Rattle.std.proofs.Common.{◌≡◌, map}
use Rattle.std.specs.List.{range_with_len}
use Rattle.trace_node.specs.Following.{reach_of}
use Rattle.trace_node.proofs.follow.reaches_of.Given as goal

abbrev pub invariant-loop-rank : goal.invariant-loop-rank
invariant-loop-rank l = l.reaches.items ≡ map (reach_of l.know) (range_with_len 0 l.rank)
