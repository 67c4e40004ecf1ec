use Rattle.comm_makings.specs.Makes.{AreSilentTo, dims_in}
use Rattle.comm_makings.proofs.grids.first_dims.Given as goal

abbrev pub invariant-loop-here : goal.invariant-loop-here
invariant-loop-here l = AreSilentTo l.ranks dims_in l.all l.here-index
