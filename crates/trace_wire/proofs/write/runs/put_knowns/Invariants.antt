use Rattle.std.proofs.Common.{◌≡◌, ◌<◌, ◌≤◌, ◌-◌, ◌^◌, length, take, drop}
use Rattle.trace_wire.specs.Cells.{knowns_bytes, knowns_of}
use Rattle.trace_wire.specs.Sending.{Comes}
use Rattle.trace_wire.proofs.write.runs.put_knowns.Given as goal

abbrev pub invariant-loop : goal.invariant-loop
invariant-loop g l = record {
  there : l.count - l.counter ≤ length l.cells;
  left : drop (l.count - l.counter) l.cells ≡ drop l.count l.fn.cells;
  short : length (knowns_bytes (knowns_of (take (l.count - l.counter) l.cells))) < 2 ^ 32;
  comes : Comes (g.S.Sink.page l.fn.out) (g.S.Sink.page l.out) (knowns_bytes (knowns_of (take l.count l.fn.cells))) (knowns_bytes (knowns_of (take (l.count - l.counter) l.cells)));
}
