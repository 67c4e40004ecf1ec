use Rattle.std.proofs.Common.{◌<◌, ◌^◌, length}
use Rattle.trace_wire.specs.Runs.{runs_bytes, runs_of}
use Rattle.trace_wire.specs.Sending.{Comes}
use Rattle.trace_wire.proofs.write.runs.put_runs.Given as goal

abbrev pub invariant-loop-cells : goal.invariant-loop-cells
invariant-loop-cells g l = record {
  short : length (runs_bytes (runs_of l.cells)) < 2 ^ 32;
  comes : Comes (g.S.Sink.page l.fn.out) (g.S.Sink.page l.out) (runs_bytes (runs_of l.fn.cells)) (runs_bytes (runs_of l.cells));
}

abbrev pub decreases-loop-cells : goal.decreases-loop-cells
decreases-loop-cells g l = length (runs_of l.cells)
