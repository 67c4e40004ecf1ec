use Rattle.trace_pair.proofs.Rowed.{counted_step}
use Rattle.trace_pair.proofs.reach.rows_of.Goals as goal

pub loop-entered-preserved : goal.loop-entered-preserved
loop-entered-preserved c = λ q.
    counted_step q c.args.rounds.now c.loop-entered.entered-index c.entered-item.result _ _ c.loop-entered-test.true c.entered-item.is (c.loop-entered.invariant q)
    (c.in_ok-add_counted.ensures q)
