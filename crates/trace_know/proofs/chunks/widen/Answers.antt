use Rattle.std.proofs.Common.{◌+◌, ◌/◌, arith}
use Rattle.trace_know.proofs.Packing.{room-within, packed-wider}
use Rattle.trace_know.proofs.chunks.widen.Goals as goal

pub room_at-requires : goal.room_at-requires
room_at-requires c = let most = room-within c.args.len c.args.room c.args.chunks.now.items c.requires.packed in omega arith

pub returns-in-Ok-clause-packed : goal.returns-in-Ok-clause-packed
returns-in-Ok-clause-packed c =
    let k = c.args.room / 1024 in
    let packed = c.in-Ok.ensures.packed c.args.len c.args.room c.requires.packed in
    packed-wider c.args.len c.args.room (c.args.room + c.min-more.result) k c.room_at.new.chunks.items packed c.in-Ok.ensures.there (omega arith) (omega arith) (omega arith)
    (λ d. let wide = c.in-Ok.ensures.room d in omega arith)

pub returns-in-Err-clause-packed : goal.returns-in-Err-clause-packed
returns-in-Err-clause-packed c = c.in-Err.ensures.packed c.args.len c.args.room c.requires.packed
