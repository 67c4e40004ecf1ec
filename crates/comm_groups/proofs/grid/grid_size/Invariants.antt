use Rattle.std.proofs.Common.{◌≡◌, true, take}
use Rattle.comm_groups.specs.Grids.{are_sizes, grid_size}
use Rattle.comm_groups.proofs.grid.grid_size.Given as goal

abbrev pub invariant-loop-d : goal.invariant-loop-d
invariant-loop-d l = record {
  sizes : are_sizes (take l.d-index l.dims) ≡ true;
  size : l.size ≡ grid_size (take l.d-index l.dims);
}
