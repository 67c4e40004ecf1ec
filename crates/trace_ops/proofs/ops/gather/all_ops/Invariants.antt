use Rattle.std.proofs.Common.{◌≡◌, map}
use Rattle.std.specs.List.{range_with_len}
use Rattle.trace_ops.specs.RankOps.{ops_of}
use Rattle.trace_ops.proofs.ops.gather.all_ops.Given as goal

abbrev pub invariant-loop-rank : goal.invariant-loop-rank
invariant-loop-rank l = l.all.items ≡ map (ops_of l.layout l.know) (range_with_len 0 l.rank)
