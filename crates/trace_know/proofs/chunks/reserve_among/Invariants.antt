use Rattle.std.proofs.Common.{◌≡◌, ◌-◌, ◌≤◌}
use Rattle.trace_know.specs.Chunks.{in_chunks, IsPacked}
use Rattle.trace_know.proofs.chunks.reserve_among.Given as goal

abbrev pub invariant-loop-reached : goal.invariant-loop-reached
invariant-loop-reached l = record {
  items : in_chunks l.chunks.items ≡ in_chunks l.fn.chunks.items;
  packed : IsPacked l.fn.len l.reached l.chunks.items;
  more : l.fn.room ≤ l.reached;
}

abbrev pub decreases-loop-reached : goal.decreases-loop-reached
decreases-loop-reached l = l.fn.wanted - l.reached
