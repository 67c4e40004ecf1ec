use Rattle.trace_wait.proofs.Columns.{merged_more, merged_reaches}
use Rattle.trace_wait.proofs.tally.merge.Goals as goal

pub put-requires : goal.put-requires
put-requires c = merged_reaches c.args.calls.now c.loop-k.k c.args.tallies.now.items c.loop-k.tallies.items c.loop-k-test.true c.loop-k.invariant

pub loop-k-preserved : goal.loop-k-preserved
loop-k-preserved c = merged_more c.args.calls.now c.loop-k.k c.index-calls-k.result c.args.tallies.now.items c.loop-k.tallies.items c.put.new.tallies.items c.loop-k-test.true c.index-calls-k.is c.loop-k.invariant c.in_ok-put.ensures
