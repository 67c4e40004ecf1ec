use Rattle.std.proofs.Common.{◌≡◌, ◌++◌, drop}
use Rattle.comm_groups.specs.Grids.{kept}
use Rattle.comm_groups.proofs.grid.kept_dims.Given as goal

abbrev pub invariant-loop-i : goal.invariant-loop-i
invariant-loop-i l = l.kept.items ++ kept (drop l.i l.remain) (drop l.i l.dims) ≡ kept l.remain l.dims
