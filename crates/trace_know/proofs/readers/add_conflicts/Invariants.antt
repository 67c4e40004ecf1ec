use Rattle.std.proofs.Common.{◌≡◌, ◌+◌, ◌++◌, drop}
use Rattle.trace_know.specs.Listing.{conflicts_in}
use Rattle.trace_know.specs.Runs.{cells_of_run, placed_cells}
use Rattle.trace_know.proofs.readers.add_conflicts.Given as goal

abbrev pub invariant-loop-at : goal.invariant-loop-at
invariant-loop-at l = l.places.items ++ conflicts_in (placed_cells l.run.rank (l.run.first + l.at) (drop l.at l.run.cells.items)) ≡ l.fn.places.items ++ conflicts_in (cells_of_run l.run)
