use Rattle.std.proofs.Common.{◌≡◌, ◌≤◌, ◌-◌, take, length}
use Rattle.std.specs.Io.KnownBytes.{Consumes}
use Rattle.mpi_model.specs.Side.{LeavesSide}
use Rattle.mpi_model.proofs.whole.read_exactly.Given as goal

abbrev pub invariant-loop-taken : goal.invariant-loop-taken
invariant-loop-taken g l = record {
  within : l.taken ≤ length l.buffer;
  front : Consumes (g.R.Read.left l.fn.reader) (g.R.Read.left l.reader) (take l.taken l.buffer);
  no_failure : g.R.Read.failures l.reader ≡ g.R.Read.failures l.fn.reader;
  beside : LeavesSide (g.R.Read.write_side l.fn.reader) (g.R.Read.write_side l.reader);
}

abbrev pub decreases-loop-taken : goal.decreases-loop-taken
decreases-loop-taken g l = length l.initial.buffer - l.taken
