use Rattle.std.proofs.Common.{List, length, ap, ◌∙◌}
use Rattle.trace_know.specs.declared.run.Run.{Run}
use Rattle.trace_know.proofs.Packing.{packed-set, in-same}
use Rattle.trace_know.proofs.chunks.room_at.Goals as goal

pub returns-clause-items : goal.returns-clause-items
returns-clause-items c =
    in-same c.args.k c.chunk_at.new.chunks.items c.reserve.new.self c.index_mut-chunk.result.now c.in_ok-chunk_at.ensures.ok c.index_mut-chunk.ensures.value c.reserve.ensures.items ∙ c.in_ok-chunk_at.ensures.items

pub returns-clause-packed : goal.returns-clause-packed
returns-clause-packed c = λ len least h.
    packed-set len least c.args.k c.chunk_at.new.chunks.items c.reserve.new.self c.index_mut-chunk.result.now (c.in_ok-chunk_at.ensures.packed len least h) c.in_ok-chunk_at.ensures.ok c.index_mut-chunk.ensures.value
    (ap (λ (xs : List Run). length xs) c.reserve.ensures.items) c.reserve.ensures.capacity
