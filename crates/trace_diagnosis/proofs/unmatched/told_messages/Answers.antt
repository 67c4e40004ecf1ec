use Rattle.std.proofs.lemmas.List.{get_or_default}
use Rattle.trace_diagnosis.specs.LeftOver.{is_told}
use Rattle.trace_diagnosis.proofs.Lists.{filter_step}
use Rattle.trace_diagnosis.proofs.unmatched.told_messages.Goals as goal

pub loop-m-preserved : goal.loop-m-preserved
loop-m-preserved c = record {
  messages = filter_step (λ t. t.message) (is_told c.args.run.now.held.now c.args.run.now.waits.now) c.loop-m.told.items _ _ c.loop-m.m-index _ c.in_ok-push_told.ensures.messages c.loop-m.invariant.messages
      c.loop-m-test.true (get_or_default c.deref-m-items.result.now c.loop-m.m-index _ _ c.loop-m-test.true);
  near = c.in_ok-push_told.ensures.near c.loop-m.invariant.near;
}
