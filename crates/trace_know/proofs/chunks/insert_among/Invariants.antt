use Rattle.std.proofs.Common.{◌≡◌, ◌+◌, ◌*◌, ◌<◌, ◌≤◌}
use Rattle.std.specs.List.{insert}
use Rattle.trace_know.specs.declared.chunks.TheConstants.{CHUNK}
use Rattle.trace_know.specs.Chunks.{in_chunks, IsPacked}
use Rattle.trace_know.proofs.chunks.insert_among.Given as goal

abbrev pub invariant-loop-k : goal.invariant-loop-k
invariant-loop-k l = record {
  items : insert (in_chunks l.chunks.items) (l.k * CHUNK + l.place) l.carried ≡ insert (in_chunks l.fn.chunks.items) l.fn.at l.fn.run;
  packed : IsPacked l.fn.len l.fn.room l.chunks.items;
  within : l.k * CHUNK + l.place ≤ l.fn.len;
  short : l.place < CHUNK;
}
