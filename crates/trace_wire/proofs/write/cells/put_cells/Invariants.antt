use Rattle.std.proofs.Common.{◌<◌, ◌^◌, length}
use Rattle.trace_wire.specs.Cells.{cells_bytes}
use Rattle.trace_wire.specs.Sending.{Comes}
use Rattle.trace_wire.proofs.write.cells.put_cells.Given as goal

abbrev pub invariant-loop-rank : goal.invariant-loop-rank
invariant-loop-rank g l = record {
  short : length (cells_bytes l.cells) < 2 ^ 32;
  comes : Comes (g.S.Sink.page l.fn.out) (g.S.Sink.page l.out) (cells_bytes l.fn.cells) (cells_bytes l.cells);
}

abbrev pub decreases-loop-rank : goal.decreases-loop-rank
decreases-loop-rank g l = length l.cells
