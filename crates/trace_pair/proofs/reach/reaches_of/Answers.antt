use Rattle.trace_pair.proofs.Reached.{reaches_more, rounds_at}
use Rattle.trace_pair.proofs.reach.reaches_of.Goals as goal

pub of-requires : goal.of-requires
of-requires c = rounds_at c.args.ops.now 0 c.loop-own.own-index c.own-item.result c.loop-own-test.true c.own-item.is c.requires

pub loop-own-preserved : goal.loop-own-preserved
loop-own-preserved c =
    reaches_more c.loop-own.table.items c.push.new.self.items c.args.ops.now c.loop-own.own-index c.own-item.result c.in_ok-of.field-0 c.loop-own-test.true c.own-item.is c.in_ok-push.ensures.items c.loop-own.invariant c.in_ok-of.ensures
