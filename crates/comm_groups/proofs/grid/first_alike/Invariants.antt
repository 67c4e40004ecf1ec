use Rattle.std.proofs.Common.{◌≡◌, ◌≤◌, ◌+◌, drop}
use Rattle.comm_groups.specs.Grids.{first_alike, grid_size}
use Rattle.comm_groups.proofs.grid.first_alike.Given as goal

abbrev pub invariant-loop-i : goal.invariant-loop-i
invariant-loop-i l = record {
  size : l.below ≡ grid_size (drop l.i l.dims);
  bound : l.first + l.left ≤ l.rank;
  alike : l.first + first_alike (drop l.i l.dims) (drop l.i l.remain) l.left ≡ first_alike l.dims l.remain l.rank;
}
