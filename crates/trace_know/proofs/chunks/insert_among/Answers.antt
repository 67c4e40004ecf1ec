use Rattle.std.proofs.Common.{◌≡◌, ◌+◌, ◌*◌, ◌/◌, ◌<◌, ℕ, length, ap, ◌∙◌, arith}
use Rattle.std.specs.List.{insert}
use Rattle.trace_know.specs.declared.chunks.TheConstants.{CHUNK}
use Rattle.trace_know.specs.Chunks.{in_chunks}
use Rattle.trace_know.proofs.Packing.{room-there, chunk-len, chunk-room, packed-set, packed-more, put-last, passed-on}
use Rattle.trace_know.proofs.chunks.insert_among.Goals as goal

pub index_mut-requires : goal.index_mut-requires
index_mut-requires c =
    let inv = c.loop-k.invariant in
    let there = room-there c.args.len c.args.room c.loop-k.k c.loop-k.chunks.items inv.packed (omega arith) in
    omega arith

pub push_through-carried-requires : goal.push_through-carried-requires
push_through-carried-requires c =
    let inv = c.loop-k.invariant in
    let there = room-there c.args.len c.args.room c.loop-k.k c.loop-k.chunks.items inv.packed (omega arith) in
    let size = chunk-len c.args.len c.args.room c.loop-k.k c.loop-k.chunks.items c.index_mut.result.now inv.packed there c.index_mut.ensures.value in
    let short = inv.short in
    omega arith

pub loop-k-preserved : goal.loop-k-preserved
loop-k-preserved c =
    let inv = c.loop-k.invariant in
    let k = c.loop-k.k in
    let cs = c.loop-k.chunks.items in
    let old = c.index_mut.result.now in
    let new = c.push_through-carried.new.chunk in
    let there : k < length cs = room-there c.args.len c.args.room k cs inv.packed (omega arith) in
    let size = chunk-len c.args.len c.args.room k cs old inv.packed there c.index_mut.ensures.value in
    let short = inv.short in
    let same = c.push_through-carried.ensures.len in
    record {
      items = passed-on c.args.len c.args.room k c.loop-k.place cs new old c.loop-k.carried c.push_through-carried.result inv.packed there c.index_mut.ensures.value (omega arith) (omega arith)
          same c.push_through-carried.ensures.items ∙ inv.items;
      packed = packed-set c.args.len c.args.room k cs new old inv.packed there c.index_mut.ensures.value same c.push_through-carried.ensures.capacity;
      within = omega arith;
      short = omega arith;
    }

pub index_mut-requires-2 : goal.index_mut-requires-2
index_mut-requires-2 c =
    let inv = c.loop-k.invariant in
    let there = room-there c.args.len c.args.room (c.args.len / 1024) c.loop-k.chunks.items inv.packed (omega arith) in
    omega arith

pub put_into-requires-clause-at : goal.put_into-requires-clause-at
put_into-requires-clause-at c =
    let inv = c.loop-k.invariant in
    let k = c.args.len / 1024 in
    let there = room-there c.args.len c.args.room k c.loop-k.chunks.items inv.packed (omega arith) in
    let size = chunk-len c.args.len c.args.room k c.loop-k.chunks.items c.index_mut-2.result.now inv.packed there c.index_mut-2.ensures.value in
    let within = inv.within in
    omega arith

pub put_into-requires-clause-room : goal.put_into-requires-clause-room
put_into-requires-clause-room c =
    let inv = c.loop-k.invariant in
    let k = c.args.len / 1024 in
    let there = room-there c.args.len c.args.room k c.loop-k.chunks.items inv.packed (omega arith) in
    let size = chunk-len c.args.len c.args.room k c.loop-k.chunks.items c.index_mut-2.result.now inv.packed there c.index_mut-2.ensures.value in
    let wide = chunk-room c.args.len c.args.room k c.loop-k.chunks.items c.index_mut-2.result.now inv.packed there c.index_mut-2.ensures.value in
    let room = c.requires.room in
    omega arith

pub returns-clause-items : goal.returns-clause-items
returns-clause-items c =
    let inv = c.loop-k.invariant in
    let k = c.args.len / 1024 in
    let there = room-there c.args.len c.args.room k c.loop-k.chunks.items inv.packed (omega arith) in
    let size = chunk-len c.args.len c.args.room k c.loop-k.chunks.items c.index_mut-2.result.now inv.packed there c.index_mut-2.ensures.value in
    let within = inv.within in
    let last : k * CHUNK + c.loop-k.place ≡ c.loop-k.k * CHUNK + c.loop-k.place = omega arith in
    put-last c.args.len c.args.room k c.loop-k.place c.loop-k.chunks.items c.put_into.new.chunk c.index_mut-2.result.now c.loop-k.carried inv.packed there c.index_mut-2.ensures.value (omega arith) (omega arith) c.put_into.ensures.items
    ∙ ap (λ (n : ℕ). insert (in_chunks c.loop-k.chunks.items) n c.loop-k.carried) last ∙ inv.items

pub returns-clause-packed : goal.returns-clause-packed
returns-clause-packed c =
    let inv = c.loop-k.invariant in
    let k = c.args.len / 1024 in
    let there = room-there c.args.len c.args.room k c.loop-k.chunks.items inv.packed (omega arith) in
    packed-more c.args.len c.args.room k c.loop-k.chunks.items c.put_into.new.chunk c.index_mut-2.result.now inv.packed there c.index_mut-2.ensures.value (omega arith) (omega arith) c.put_into.ensures.len c.put_into.ensures.capacity
