use Rattle.std.proofs.Common.{◌≡◌, ◌++◌, map}
use Rattle.std.specs.List.{range_with_len}
use Rattle.comm_groups.specs.Ranges.{rank_of}
use Rattle.comm_groups.proofs.range.push_ranks.Given as goal

abbrev pub invariant-loop-k : goal.invariant-loop-k
invariant-loop-k l = l.ranks.items ≡ l.initial.ranks.items ++ map (rank_of l.range) (range_with_len 0 l.k)
