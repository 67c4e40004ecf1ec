use Rattle.std.proofs.Common.{List, sym, ap, subst, ◌∙◌}
use Rattle.trace_know.specs.Chunks.{ChunkValue, in_chunks, IsPacked}
use Rattle.trace_know.proofs.Packing.{packed-behind, in-behind}
use Rattle.trace_know.proofs.chunks.chunk_at.Goals as goal

pub returns-clause-items : goal.returns-clause-items
returns-clause-items c = ap in_chunks c.in_ok-push.ensures.items ∙ in-behind c.args.chunks.now.items c.new.result c.new.ensures.items

pub returns-clause-packed : goal.returns-clause-packed
returns-clause-packed c = λ len least h.
    subst (λ (cs : List ChunkValue). IsPacked len least cs) (sym c.in_ok-push.ensures.items) (packed-behind len least c.args.chunks.now.items c.new.result h c.new.ensures.items)
