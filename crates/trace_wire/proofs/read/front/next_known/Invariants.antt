use Rattle.std.proofs.Common.{◌≡◌}
use Rattle.mpi_model.specs.Side.{LeavesSide}
use Rattle.trace_wire.specs.Windows.{Comes, IsLeft}
use Rattle.trace_wire.proofs.read.front.next_known.Given as goal

abbrev pub invariant-loop-known : goal.invariant-loop-known
invariant-loop-known g l = record {
  far : Comes (g.R.Read.left l.fn.reader) (g.R.Read.left l.reader) l.fn.window l.window IsLeft;
  no_failure : g.R.Read.failures l.reader ≡ g.R.Read.failures l.fn.reader;
  beside : LeavesSide (g.R.Read.write_side l.fn.reader) (g.R.Read.write_side l.reader);
}

abbrev pub decreases-loop-known : goal.decreases-loop-known
decreases-loop-known g l = l.window.coming
