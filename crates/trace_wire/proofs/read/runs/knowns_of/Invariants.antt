use Rattle.std.proofs.Common.{◌≡◌}
use Rattle.mpi_model.specs.Side.{LeavesSide}
use Rattle.trace_wire.specs.Windows.{Comes}
use Rattle.trace_wire.proofs.WindowRuns.{KnownsLeft}
use Rattle.trace_wire.proofs.read.runs.knowns_of.Given as goal

abbrev pub invariant-loop-at : goal.invariant-loop-at
invariant-loop-at g l = record {
  far : Comes (g.R.Read.left l.fn.reader) (g.R.Read.left l.reader) l.fn.window l.window (KnownsLeft l.first l.count l.cells.items l.at);
  no_failure : g.R.Read.failures l.reader ≡ g.R.Read.failures l.fn.reader;
  beside : LeavesSide (g.R.Read.write_side l.fn.reader) (g.R.Read.write_side l.reader);
}
