use Rattle.std.proofs.Common.{◌≡◌, ◌+◌, drop}
use Rattle.std.specs.List.{slice_get}
use Rattle.trace_know.specs.Listing.{conflicts_in}
use Rattle.trace_know.specs.Runs.{cells_of_run, placed_cells}
use Rattle.trace_know.proofs.readers.conflict_of.Given as goal

abbrev pub invariant-loop-at : goal.invariant-loop-at
invariant-loop-at l = slice_get (conflicts_in (placed_cells l.run.rank (l.run.first + l.at) (drop l.at l.run.cells.items))) l.left ≡ slice_get (conflicts_in (cells_of_run l.run)) l.i
