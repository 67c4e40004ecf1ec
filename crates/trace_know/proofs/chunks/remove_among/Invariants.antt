use Rattle.std.proofs.Common.{◌≡◌, ◌+◌, ◌-◌, ◌*◌, ◌<◌, ◌≤◌}
use Rattle.std.specs.List.{insert}
use Rattle.trace_know.specs.declared.chunks.TheConstants.{CHUNK}
use Rattle.trace_know.specs.Chunks.{in_chunks, IsPacked}
use Rattle.trace_know.proofs.chunks.remove_among.Given as goal

abbrev pub invariant-loop-k : goal.invariant-loop-k
invariant-loop-k l = record {
  items : insert (in_chunks l.chunks.items) (l.k * CHUNK + 0) l.carried ≡ in_chunks l.fn.chunks.items;
  packed : IsPacked (l.fn.len - 1) l.fn.room l.chunks.items;
  from : l.first < l.k;
  to : l.k ≤ l.last;
}

abbrev pub decreases-loop-k : goal.decreases-loop-k
decreases-loop-k l = l.k
