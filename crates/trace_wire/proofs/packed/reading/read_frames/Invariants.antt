use Rattle.std.proofs.Common.{◌≡◌}
use Rattle.mpi_model.specs.Side.{LeavesSide}
use Rattle.trace_wire.proofs.Framing.{Reads}
use Rattle.trace_wire.proofs.packed.reading.read_frames.Given as goal

abbrev pub invariant-loop-frame : goal.invariant-loop-frame
invariant-loop-frame g l = record {
  reads : Reads l.fn.ranks (g.R.Read.left l.fn.reader) (g.R.Read.left l.reader) l.all l.frame;
  no_failure : g.R.Read.failures l.reader ≡ g.R.Read.failures l.fn.reader;
  beside : LeavesSide (g.R.Read.write_side l.fn.reader) (g.R.Read.write_side l.reader);
}
