use Rattle.std.proofs.Common.{ℕ, ◌+◌, ◌<◌, Some, slice_index_or}
use Rattle.std.specs.FinMap.{get}
use Rattle.trace_know.specs.declared.cell.Known.{Known}
use Rattle.trace_know.specs.Cell.{IsAtMost}
use Rattle.trace_know.specs.Runs.{of_runs}
use Rattle.trace_know.proofs.compare.holds_run.Given as goal

abbrev pub invariant-loop-i : goal.invariant-loop-i
invariant-loop-i l = (k : ℕ) (d : Known) → k < l.i → IsAtMost (Some (slice_index_or l.other.cells.items k d)) (get (of_runs l.runs.items) (l.other.rank, l.other.first + k))
