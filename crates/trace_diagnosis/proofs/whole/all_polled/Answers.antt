use Rattle.trace_diagnosis.specs.Askers.{asked_plain}
use Rattle.trace_diagnosis.specs.Conditions.{polled_plain}
use Rattle.trace_diagnosis.proofs.Lists.{map_step}
use Rattle.trace_diagnosis.proofs.whole.all_polled.Goals as goal

pub loop-asked-preserved : goal.loop-asked-preserved
loop-asked-preserved c =
    map_step polled_plain asked_plain c.loop-asked.polled.items _ c.in_ok-one.one c.args.all.now c.loop-asked.asked-index c.asked-item.result c.in_ok-push.ensures.items c.loop-asked.invariant c.in_ok-one.ensures c.loop-asked-test.true c.asked-item.is
