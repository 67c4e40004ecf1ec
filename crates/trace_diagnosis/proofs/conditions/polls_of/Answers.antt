use Rattle.std.proofs.Common.{◌∙◌, ◌++◌, ◌<◌, List, ap, map, subst, sym}
use Rattle.trace_diagnosis.specs.Askers.{asked_plain, poll_plain, polls_by}
use Rattle.trace_diagnosis.specs.declared.conditions.Poller.{Poller}
use Rattle.trace_diagnosis.specs.declared.polls.Asked.{Asked}
use Rattle.trace_diagnosis.proofs.Lists.{flat_step}
use Rattle.trace_diagnosis.proofs.conditions.polls_of.Goals as goal

pub loop-poller-preserved : goal.loop-poller-preserved
loop-poller-preserved c = record {
  there = λ count all.
      c.in_ok-push_polls.ensures.there count
      (subst (λ (p : Poller). p.rank < count) (sym c.poller-item.is) (all c.loop-poller.poller-index c.poller-item.result c.loop-poller-test.true))
      (c.loop-poller.invariant.there count all);
  polls = flat_step poll_plain polls_by c.loop-poller.polls.items _ c.args.pollers.now c.loop-poller.poller-index c.poller-item.result
      (c.in_ok-push_polls.ensures.polls ∙ ap (λ (l : List Asked). map poll_plain c.loop-poller.polls.items ++ map (λ a. (c.poller-item.result.rank, asked_plain a)) l) c.deref.ensures.value)
      c.loop-poller.invariant.polls c.loop-poller-test.true c.poller-item.is;
}
