use Rattle.std.proofs.Common.{◌≡◌, ◌+◌, ℕ, List, length}
use Rattle.std.specs.Io.KnownBytes.{Consumes}
use Rattle.mpi_model.specs.Side.{LeavesSide}
use Rattle.trace_wire.proofs.read.filling.drain.Given as goal

abbrev pub invariant-loop-window : goal.invariant-loop-window
invariant-loop-window g l = record {
  far : (front : List ℕ) × Consumes (g.R.Read.left l.fn.reader) (g.R.Read.left l.reader) front × (l.fn.window.coming ≡ length front + l.window.coming);
  no_failure : g.R.Read.failures l.reader ≡ g.R.Read.failures l.fn.reader;
  beside : LeavesSide (g.R.Read.write_side l.fn.reader) (g.R.Read.write_side l.reader);
}

abbrev pub decreases-loop-window : goal.decreases-loop-window
decreases-loop-window g l = l.window.coming
