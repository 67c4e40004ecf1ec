use Rattle.trace_know.proofs.Entries.{cell_listed, listed_cell, cell_conflict, conflict_cell, cells_rise, conflicts_rise}
use Rattle.trace_know.proofs.laws.listing_laws.Goals as goal

pub returns-clause-cells : goal.returns-clause-cells
returns-clause-cells c = λ view rank place known. (listed_cell view (rank, place) known, cell_listed view (rank, place) known)

pub returns-clause-cells_rise : goal.returns-clause-cells_rise
returns-clause-cells_rise c = cells_rise

pub returns-clause-conflicts : goal.returns-clause-conflicts
returns-clause-conflicts c = λ view rank place. (conflict_cell view (rank, place), cell_conflict view (rank, place))

pub returns-clause-conflicts_rise : goal.returns-clause-conflicts_rise
returns-clause-conflicts_rise c = conflicts_rise
