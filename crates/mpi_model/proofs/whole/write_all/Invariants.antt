use Rattle.std.proofs.Common.{◌≡◌, ◌≤◌, ◌-◌, take, length}
use Rattle.std.specs.Io.KnownBytes.{Appends}
use Rattle.mpi_model.specs.Side.{LeavesSide}
use Rattle.mpi_model.proofs.whole.write_all.Given as goal

abbrev pub invariant-loop-written : goal.invariant-loop-written
invariant-loop-written g l = record {
  within : l.written ≤ length l.piece;
  front : Appends (g.W.Write.written l.fn.writer) (g.W.Write.written l.writer) (take l.written l.piece);
  no_failure : g.W.Write.failures l.writer ≡ g.W.Write.failures l.fn.writer;
  beside : LeavesSide (g.W.Write.read_side l.fn.writer) (g.W.Write.read_side l.writer);
}

abbrev pub decreases-loop-written : goal.decreases-loop-written
decreases-loop-written g l = length l.piece - l.written
