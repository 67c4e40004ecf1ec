use Rattle.std.proofs.Common.{◌≡◌, ◌+◌, ◌*◌, ◌/◌, ◌%◌, ◌<◌, ℕ, List, length, slice_index_or, sym, ap, ◌∙◌, arith}
use Rattle.trace_know.specs.declared.run.Run.{Run}
use Rattle.trace_know.specs.declared.chunks.TheConstants.{CHUNK}
use Rattle.trace_know.specs.Chunks.{ChunkValue, in_chunks, IsPacked}
use Rattle.trace_know.proofs.Packing.{packed-length, chunk-there, chunk-len, item-at}
use Rattle.trace_know.proofs.run_list.RunList.at.Goals as goal

-- the index is one of a run
inside : (len room i : ℕ) (cs : List ChunkValue) (items : List Run) → IsPacked len room cs → in_chunks cs ≡ items → i < length items → i < len
inside len room i cs items h is l =
    let size = packed-length len room cs h in
    let same = ap (λ (xs : List Run). length xs) is in
    omega arith

pub index-requires : goal.index-requires
index-requires c =
    let s = c.self.inside in
    let i = inside s.len s.room c.args.i s.chunks.items c.args.self.now.items c.self.invariant.0 (ap (λ r. r.items) c.self.view_is) c.requires in
    let there = chunk-there s.len s.room (c.args.i / 1024) s.chunks.items c.self.invariant.0 (omega arith) in
    omega arith

pub index-requires-2 : goal.index-requires-2
index-requires-2 c =
    let s = c.self.inside in
    let i = inside s.len s.room c.args.i s.chunks.items c.args.self.now.items c.self.invariant.0 (ap (λ r. r.items) c.self.view_is) c.requires in
    let there = chunk-there s.len s.room (c.args.i / 1024) s.chunks.items c.self.invariant.0 (omega arith) in
    let size = chunk-len s.len s.room (c.args.i / 1024) s.chunks.items c.index.result.now c.self.invariant.0 there c.index.ensures in
    omega arith

pub returns : goal.returns
returns c =
    let s = c.self.inside in
    let i = inside s.len s.room c.args.i s.chunks.items c.args.self.now.items c.self.invariant.0 (ap (λ r. r.items) c.self.view_is) c.requires in
    let k = c.args.i / 1024 in
    let p = c.args.i % 1024 in
    let run = c.index-2.result.now in
    let there = chunk-there s.len s.room k s.chunks.items c.self.invariant.0 (omega arith) in
    let size = chunk-len s.len s.room k s.chunks.items c.index.result.now c.self.invariant.0 there c.index.ensures in
    let at : k * CHUNK + p ≡ c.args.i = omega arith in
    c.index-2.ensures ∙ sym (item-at s.len s.room k p s.chunks.items c.index.result.now run c.self.invariant.0 there c.index.ensures (omega arith))
    ∙ ap (λ (n : ℕ). slice_index_or (in_chunks s.chunks.items) n run) at ∙ ap (λ r. slice_index_or r.items c.args.i run) c.self.view_is
