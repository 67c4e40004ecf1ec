use Rattle.std.proofs.Common.{◌≡◌, map}
use Rattle.std.specs.List.{range_with_len}
use Rattle.trace_wait.specs.Ranks.{ops_of}
use Rattle.trace_node.specs.ByRank.{entered_by}
use Rattle.trace_node.proofs.answer.gather.walls_of.Given as goal

abbrev pub invariant-loop-rank : goal.invariant-loop-rank
invariant-loop-rank l = l.walls.items ≡ map (λ r. entered_by l.know r (ops_of l.ops r)) (range_with_len 0 l.rank)
