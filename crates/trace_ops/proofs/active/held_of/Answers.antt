use Rattle.trace_ops.specs.Active.{held_of}
use Rattle.trace_ops.specs.Called.{plain_called}
use Rattle.trace_ops.proofs.Holding.{held_more}
use Rattle.trace_ops.proofs.active.held_of.Goals as goal

pub loop-n-preserved : goal.loop-n-preserved
loop-n-preserved c all h =
    held_more all c.args.calls.now c.loop-n.n (plain_called c.at.result) c.loop-n.numbers.items c.push_some.new.list.items c.held_still.result (held_of all 0 c.args.calls.now)
    c.at.ensures (cc (c.held_still.ensures all h, c.given.ensures)) c.in_ok-push_some.ensures (c.loop-n.invariant all h)
