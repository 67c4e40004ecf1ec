use Rattle.std.proofs.Common.{◌≡◌}
use Rattle.std.specs.FinMap.{entries}
use Rattle.mpi_model.specs.Side.{LeavesSide}
use Rattle.trace_wire.proofs.Packing.{Packs}
use Rattle.trace_wire.proofs.packed.writing.write_frames.Given as goal

abbrev pub invariant-loop-part : goal.invariant-loop-part
invariant-loop-part g l = record {
  packs : Packs (entries l.fn.knowledge) l.part-items l.part-index l.cells (g.W.Write.written l.fn.writer) (g.W.Write.written l.writer);
  no_failure : g.W.Write.failures l.writer ≡ g.W.Write.failures l.fn.writer;
  beside : LeavesSide (g.W.Write.read_side l.fn.writer) (g.W.Write.read_side l.writer);
}
