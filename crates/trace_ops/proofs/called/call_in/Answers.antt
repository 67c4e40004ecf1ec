use Rattle.std.proofs.Common.{◌*◌, refl, sym, arith}
use Rattle.trace_ops.proofs.Taken.{call_placed, calls_count}
use Rattle.trace_ops.proofs.called.call_in.Goals as goal

pub overflow_mul-n : goal.overflow_mul-n
overflow_mul-n c = let count = calls_count c.args.events.now in omega (arith, count)

pub returns : goal.returns
returns c = (_, call_placed c.args.events.now c.args.n (2 * c.args.n) c.at.result.now refl c.at.ensures, sym c.call_of.ensures)

pub at-requires : goal.at-requires
at-requires c = let count = calls_count c.args.events.now in omega (arith, count, c.requires.place)
