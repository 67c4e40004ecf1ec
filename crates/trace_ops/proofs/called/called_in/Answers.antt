use Rattle.std.proofs.Common.{◌*◌, refl, arith}
use Rattle.trace_ops.proofs.Taken.{call_placed, calls_count}
use Rattle.trace_ops.proofs.called.called_in.Goals as goal

pub overflow_mul-place : goal.overflow_mul-place
overflow_mul-place c = let count = calls_count c.args.events.now in omega (arith, count)

pub overflow_add-place : goal.overflow_add-place
overflow_add-place c = let count = calls_count c.args.events.now in omega (arith, count)

pub returns : goal.returns
returns c =
    let placed = call_placed c.args.events.now c.args.n (2 * c.args.n) c.at.result.now refl c.at.ensures in
    cc (placed, c.call_of-call.ensures, c.outs_at-outs.ensures)

pub at-requires : goal.at-requires
at-requires c = let count = calls_count c.args.events.now in omega (arith, count, c.requires.place)
