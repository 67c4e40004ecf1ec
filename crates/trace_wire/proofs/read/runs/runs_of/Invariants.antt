use Rattle.std.proofs.Common.{◌≡◌}
use Rattle.std.specs.FinMap.{entries}
use Rattle.mpi_model.specs.Side.{LeavesSide}
use Rattle.trace_wire.specs.Windows.{Comes}
use Rattle.trace_wire.proofs.WindowRuns.{RunsLeft}
use Rattle.trace_wire.proofs.LastCells.{AllUpTo}
use Rattle.trace_wire.proofs.read.runs.runs_of.Given as goal

abbrev pub invariant-loop : goal.invariant-loop
invariant-loop g l = record {
  far : Comes (g.R.Read.left l.fn.reader) (g.R.Read.left l.reader) l.fn.window l.window (RunsLeft l.count (entries l.knowledge) l.last l.counter);
  up_to : AllUpTo l.last (entries l.knowledge);
  no_failure : g.R.Read.failures l.reader ≡ g.R.Read.failures l.fn.reader;
  beside : LeavesSide (g.R.Read.write_side l.fn.reader) (g.R.Read.write_side l.reader);
}
