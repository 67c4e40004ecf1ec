use Rattle.std.proofs.Common.{◌<◌, length, subst, sym}
use Rattle.trace_diagnosis.specs.Askers.{asker, poller_plain}
use Rattle.trace_diagnosis.specs.Conditions.{asker_told}
use Rattle.trace_diagnosis.specs.Tails.{polling_told}
use Rattle.trace_diagnosis.specs.declared.conditions.Poller.{Poller}
use Rattle.trace_diagnosis.proofs.Lists.{map_step}
use Rattle.trace_diagnosis.proofs.whole.polls_of.Goals as goal

pub ops_at-requires : goal.ops_at-requires
ops_at-requires c = subst (λ (p : Poller). p.rank < length c.args.ops.now) (sym c.poller-item.is) (c.requires c.loop-poller.poller-index c.poller-item.result c.loop-poller-test.true)

pub loop-poller-preserved : goal.loop-poller-preserved
loop-poller-preserved c =
    let i = c.loop-poller.poller-index in
    let lt = c.loop-poller-test.true in
    let before = c.loop-poller.invariant in
    record {
      polls = map_step asker_told asker c.loop-poller.polls.items _ c.in_ok-one.one c.args.pollers.now i c.poller-item.result c.in_ok-push.ensures.items before.polls c.in_ok-one.ensures.polls lt c.poller-item.is;
      counts = map_step polling_told poller_plain c.loop-poller.polls.items _ c.in_ok-one.one c.args.pollers.now i c.poller-item.result c.in_ok-push.ensures.items before.counts c.in_ok-one.ensures.count lt c.poller-item.is;
    }
