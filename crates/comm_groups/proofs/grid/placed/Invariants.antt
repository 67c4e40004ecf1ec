use Rattle.std.proofs.Common.{◌≡◌, map}
use Rattle.std.specs.List.{range_with_len}
use Rattle.comm_groups.specs.Grids.{placed}
use Rattle.comm_groups.proofs.grid.placed.Given as goal

abbrev pub invariant-loop-rank : goal.invariant-loop-rank
invariant-loop-rank l = l.ranks.items ≡ map (placed l.dims l.remain) (range_with_len 0 l.rank)
