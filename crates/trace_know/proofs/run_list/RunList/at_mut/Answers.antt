use Rattle.std.proofs.Common.{◌≡◌, ◌+◌, ◌*◌, ◌/◌, ◌%◌, ◌<◌, ℕ, List, length, slice_index_or, slice_set, length-set, refl, sym, ap, ◌∙◌, arith}
use Rattle.trace_know.specs.declared.run.Run.{Run}
use Rattle.trace_know.specs.declared.chunks.TheConstants.{CHUNK}
use Rattle.trace_know.specs.Chunks.{ChunkValue, in_chunks, IsPacked}
use Rattle.trace_know.proofs.Packing.{packed-length, chunk-there, chunk-len, item-at, packed-set, in-item}
use Rattle.trace_know.proofs.run_list.RunList.at_mut.Goals as goal

-- the index is one of a run
inside : (len room i : ℕ) (cs : List ChunkValue) (items : List Run) → IsPacked len room cs → in_chunks cs ≡ items → i < length items → i < len
inside len room i cs items h is l =
    let size = packed-length len room cs h in
    let same = ap (λ (xs : List Run). length xs) is in
    omega arith

pub index_mut-chunk-requires : goal.index_mut-chunk-requires
index_mut-chunk-requires c =
    let s = c.self.inside in
    let i = inside s.len s.room c.args.i s.chunks.items c.args.self.now.items c.self.invariant.0 (ap (λ r. r.items) c.self.view_is) c.requires in
    let there = chunk-there s.len s.room (c.args.i / 1024) s.chunks.items c.self.invariant.0 (omega arith) in
    omega arith

pub index_mut-requires : goal.index_mut-requires
index_mut-requires c =
    let s = c.self.inside in
    let i = inside s.len s.room c.args.i s.chunks.items c.args.self.now.items c.self.invariant.0 (ap (λ r. r.items) c.self.view_is) c.requires in
    let there = chunk-there s.len s.room (c.args.i / 1024) s.chunks.items c.self.invariant.0 (omega arith) in
    let size = chunk-len s.len s.room (c.args.i / 1024) s.chunks.items c.index_mut-chunk.result.now c.self.invariant.0 there c.index_mut-chunk.ensures.value in
    omega arith

pub invariant_of-self-lent : goal.invariant_of-self-lent
invariant_of-self-lent c = λ w.
    let s = c.self.inside in
    let i = inside s.len s.room c.args.i s.chunks.items c.args.self.now.items c.self.invariant.0 (ap (λ r. r.items) c.self.view_is) c.requires in
    let there = chunk-there s.len s.room (c.args.i / 1024) s.chunks.items c.self.invariant.0 (omega arith) in (
      packed-set s.len s.room (c.args.i / 1024) s.chunks.items _ c.index_mut-chunk.result.now c.self.invariant.0 there c.index_mut-chunk.ensures.value
          (length-set c.index_mut-chunk.result.now.items (c.args.i % 1024) w) (omega arith),
      c.self.invariant.1,
    )

pub returns : goal.returns
returns c =
    let s = c.self.inside in
    let i = inside s.len s.room c.args.i s.chunks.items c.args.self.now.items c.self.invariant.0 (ap (λ r. r.items) c.self.view_is) c.requires in
    let k = c.args.i / 1024 in
    let p = c.args.i % 1024 in
    let run = c.index_mut.result.now in
    let old = c.index_mut-chunk.result.now in
    let there = chunk-there s.len s.room k s.chunks.items c.self.invariant.0 (omega arith) in
    let size = chunk-len s.len s.room k s.chunks.items old c.self.invariant.0 there c.index_mut-chunk.ensures.value in
    let at : k * CHUNK + p ≡ c.args.i = omega arith in
    let within : p < length old.items = omega arith in (
      (
        refl,
        λ w.
            let items = in-item s.len s.room k p s.chunks.items _ old w c.self.invariant.0 there c.index_mut-chunk.ensures.value within refl
            ∙ ap (λ (n : ℕ). slice_set (in_chunks s.chunks.items) n w) at ∙ ap (λ r. slice_set r.items c.args.i w) c.self.view_is in
            let room = ap (λ r. r.room) c.self.view_is in
            λ j. record { items = items j; room = room j },
      ),
      record {
        writes_back = tt;
        value = c.index_mut.ensures.value ∙ sym (item-at s.len s.room k p s.chunks.items old run c.self.invariant.0 there c.index_mut-chunk.ensures.value within)
            ∙ ap (λ (n : ℕ). slice_index_or (in_chunks s.chunks.items) n run) at ∙ ap (λ r. slice_index_or r.items c.args.i run) c.self.view_is;
      },
    )
