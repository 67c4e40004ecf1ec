use Rattle.std.proofs.Common.{◌≡◌, ◌<◌, ◌≤◌, ◌^◌, length, take, drop}
use Rattle.trace_wire.specs.Runs.{runs_bytes, runs_of}
use Rattle.trace_wire.specs.Sending.{Comes}
use Rattle.trace_wire.proofs.packed.part.put_fronts.Given as goal

abbrev pub invariant-loop-left : goal.invariant-loop-left
invariant-loop-left g l = record {
  there : l.left ≤ length l.cells;
  dropped : drop l.left l.cells ≡ drop l.fn.count l.fn.cells;
  short : length (runs_bytes (runs_of (take l.left l.cells))) < 2 ^ 32;
  comes : Comes (g.S.Sink.page l.fn.out) (g.S.Sink.page l.out) (runs_bytes (runs_of (take l.fn.count l.fn.cells))) (runs_bytes (runs_of (take l.left l.cells)));
}

abbrev pub decreases-loop-left : goal.decreases-loop-left
decreases-loop-left g l = l.left
