use Rattle.std.proofs.Common.{◌≡◌, ◌+◌, ◌-◌, ◌*◌, ◌/◌, ◌%◌, ℕ, slice_set, ap, ◌∙◌, arith}
use Rattle.std.specs.List.{insert}
use Rattle.trace_know.specs.declared.chunks.TheConstants.{CHUNK}
use Rattle.trace_know.specs.Chunks.{in_chunks}
use Rattle.trace_know.proofs.Packing.{chunk-there, chunk-len, packed-set, packed-less, taken-last, passed-back}
use Rattle.trace_know.proofs.chunks.remove_among.Goals as goal

pub index_mut-requires : goal.index_mut-requires
index_mut-requires c =
    let there = chunk-there c.args.len c.args.room ((c.args.len - 1) / 1024) c.args.chunks.now.items c.requires.packed (omega arith) in
    omega arith

pub take_from-requires : goal.take_from-requires
take_from-requires c =
    let k = (c.args.len - 1) / 1024 in
    let there = chunk-there c.args.len c.args.room k c.args.chunks.now.items c.requires.packed (omega arith) in
    let size = chunk-len c.args.len c.args.room k c.args.chunks.now.items c.index_mut.result.now c.requires.packed there c.index_mut.ensures.value in
    omega arith

pub returns-then-first-last-clause-items : goal.returns-then-first-last-clause-items
returns-then-first-last-clause-items c =
    let k = (c.args.len - 1) / 1024 in
    let cs = c.args.chunks.now.items in
    let new = c.take_from.new.chunk in
    let there = chunk-there c.args.len c.args.room k cs c.requires.packed (omega arith) in
    let size = chunk-len c.args.len c.args.room k cs c.index_mut.result.now c.requires.packed there c.index_mut.ensures.value in
    let less = c.take_from.ensures.len in
    let at : c.args.at ≡ k * CHUNK + c.args.at % 1024 = omega arith in
    ap (λ (n : ℕ). insert (in_chunks (slice_set cs k new)) n c.take_from.result) at
    ∙ taken-last c.args.len c.args.room k (c.args.at % 1024) cs new c.index_mut.result.now c.take_from.result c.requires.packed there c.index_mut.ensures.value (omega arith) (omega arith) c.take_from.ensures.items

pub returns-then-first-last-clause-packed : goal.returns-then-first-last-clause-packed
returns-then-first-last-clause-packed c =
    let k = (c.args.len - 1) / 1024 in
    let cs = c.args.chunks.now.items in
    let there = chunk-there c.args.len c.args.room k cs c.requires.packed (omega arith) in
    packed-less c.args.len c.args.room k cs c.take_from.new.chunk c.index_mut.result.now c.requires.packed there c.index_mut.ensures.value (omega arith) (omega arith) c.take_from.ensures.len c.take_from.ensures.capacity

pub index_mut-requires-2 : goal.index_mut-requires-2
index_mut-requires-2 c =
    let there = chunk-there c.args.len c.args.room ((c.args.len - 1) / 1024) c.args.chunks.now.items c.requires.packed (omega arith) in
    omega arith

pub take_from-carried-requires : goal.take_from-carried-requires
take_from-carried-requires c =
    let k = (c.args.len - 1) / 1024 in
    let there = chunk-there c.args.len c.args.room k c.args.chunks.now.items c.requires.packed (omega arith) in
    let size = chunk-len c.args.len c.args.room k c.args.chunks.now.items c.index_mut-2.result.now c.requires.packed there c.index_mut-2.ensures.value in
    omega arith

pub loop-k-init : goal.loop-k-init
loop-k-init c =
    let k = (c.args.len - 1) / 1024 in
    let cs = c.args.chunks.now.items in
    let new = c.take_from-carried.new.chunk in
    let run = c.take_from-carried.result in
    let there = chunk-there c.args.len c.args.room k cs c.requires.packed (omega arith) in
    let size = chunk-len c.args.len c.args.room k cs c.index_mut-2.result.now c.requires.packed there c.index_mut-2.ensures.value in
    let less = c.take_from-carried.ensures.len in
    record {
      items = taken-last c.args.len c.args.room k 0 cs new c.index_mut-2.result.now run c.requires.packed there c.index_mut-2.ensures.value (omega arith) (omega arith) c.take_from-carried.ensures.items;
      packed = packed-less c.args.len c.args.room k cs new c.index_mut-2.result.now c.requires.packed there c.index_mut-2.ensures.value (omega arith) (omega arith) less c.take_from-carried.ensures.capacity;
      from = omega arith;
      to = omega arith;
    }

pub index_mut-requires-in-loop-k : goal.index_mut-requires-in-loop-k
index_mut-requires-in-loop-k c =
    let inv = c.loop-k.invariant in
    let from = inv.from in
    let to = inv.to in
    let there = chunk-there (c.args.len - 1) c.args.room (c.loop-k.k - 1) c.loop-k.chunks.items inv.packed (omega arith) in
    omega arith

pub pull_through-carried-requires : goal.pull_through-carried-requires
pull_through-carried-requires c =
    let inv = c.loop-k.invariant in
    let k = c.loop-k.k - 1 in
    let from = inv.from in
    let to = inv.to in
    let there = chunk-there (c.args.len - 1) c.args.room k c.loop-k.chunks.items inv.packed (omega arith) in
    let size = chunk-len (c.args.len - 1) c.args.room k c.loop-k.chunks.items c.index_mut-in-loop-k.result.now inv.packed there c.index_mut-in-loop-k.ensures.value in
    omega arith

pub loop-k-preserved : goal.loop-k-preserved
loop-k-preserved c =
    let inv = c.loop-k.invariant in
    let k = c.loop-k.k - 1 in
    let cs = c.loop-k.chunks.items in
    let from = inv.from in
    let to = inv.to in
    let new = c.pull_through-carried.new.chunk in
    let old = c.index_mut-in-loop-k.result.now in
    let there = chunk-there (c.args.len - 1) c.args.room k cs inv.packed (omega arith) in
    let next : k + 1 ≡ c.loop-k.k = omega arith in
    record {
      items = passed-back (c.args.len - 1) c.args.room k 0 cs new old c.pull_through-carried.result c.loop-k.carried inv.packed there c.index_mut-in-loop-k.ensures.value (omega arith) (omega arith) c.pull_through-carried.ensures.items
          ∙ ap (λ (n : ℕ). insert (in_chunks cs) (n * CHUNK + 0) c.loop-k.carried) next ∙ inv.items;
      packed = packed-set (c.args.len - 1) c.args.room k cs new old inv.packed there c.index_mut-in-loop-k.ensures.value c.pull_through-carried.ensures.len c.pull_through-carried.ensures.capacity;
      from = omega arith;
      to = omega arith;
    }

pub index_mut-requires-3 : goal.index_mut-requires-3
index_mut-requires-3 c =
    let inv = c.loop-k.invariant in
    let from = inv.from in
    let to = inv.to in
    let there = chunk-there (c.args.len - 1) c.args.room (c.args.at / 1024) c.loop-k.chunks.items inv.packed (omega arith) in
    omega arith

pub pull_through-requires : goal.pull_through-requires
pull_through-requires c =
    let inv = c.loop-k.invariant in
    let k = c.args.at / 1024 in
    let from = inv.from in
    let to = inv.to in
    let there = chunk-there (c.args.len - 1) c.args.room k c.loop-k.chunks.items inv.packed (omega arith) in
    let size = chunk-len (c.args.len - 1) c.args.room k c.loop-k.chunks.items c.index_mut-3.result.now inv.packed there c.index_mut-3.ensures.value in
    omega arith

pub returns-clause-items : goal.returns-clause-items
returns-clause-items c =
    let inv = c.loop-k.invariant in
    let k = c.args.at / 1024 in
    let cs = c.loop-k.chunks.items in
    let from = inv.from in
    let to = inv.to in
    let new = c.pull_through.new.chunk in
    let old = c.index_mut-3.result.now in
    let there = chunk-there (c.args.len - 1) c.args.room k cs inv.packed (omega arith) in
    let size = chunk-len (c.args.len - 1) c.args.room k cs old inv.packed there c.index_mut-3.ensures.value in
    let same = c.pull_through.ensures.len in
    let at : c.args.at ≡ k * CHUNK + c.args.at % 1024 = omega arith in
    let next : k + 1 ≡ c.loop-k.k = omega arith in
    ap (λ (n : ℕ). insert (in_chunks (slice_set cs k new)) n c.pull_through.result) at
    ∙ passed-back (c.args.len - 1) c.args.room k (c.args.at % 1024) cs new old c.pull_through.result c.loop-k.carried inv.packed there c.index_mut-3.ensures.value (omega arith) (omega arith) c.pull_through.ensures.items
    ∙ ap (λ (n : ℕ). insert (in_chunks cs) (n * CHUNK + 0) c.loop-k.carried) next ∙ inv.items

pub returns-clause-packed : goal.returns-clause-packed
returns-clause-packed c =
    let inv = c.loop-k.invariant in
    let k = c.args.at / 1024 in
    let from = inv.from in
    let to = inv.to in
    let there = chunk-there (c.args.len - 1) c.args.room k c.loop-k.chunks.items inv.packed (omega arith) in
    packed-set (c.args.len - 1) c.args.room k c.loop-k.chunks.items c.pull_through.new.chunk c.index_mut-3.result.now inv.packed there c.index_mut-3.ensures.value c.pull_through.ensures.len c.pull_through.ensures.capacity
