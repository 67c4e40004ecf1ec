use Rattle.std.proofs.Common.{arith}
use Rattle.trace_ops.proofs.Taken.{calls_count}
use Rattle.trace_ops.proofs.called.count_in.Goals as goal

pub returns : goal.returns
returns c = let count = calls_count c.args.events.now in omega (arith, count)
