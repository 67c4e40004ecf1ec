use Rattle.std.proofs.Common.{◌∙◌}
use Rattle.std.proofs.lemmas.List.{get_or_default}
use Rattle.trace_diagnosis.proofs.Nearing.{messages_more}
use Rattle.trace_diagnosis.proofs.near.put_messages.Goals as goal

pub loop-at-preserved : goal.loop-at-preserved
loop-at-preserved c = record {
  messages = messages_more c.args.way c.args.messages.now c.loop-at.at _ c.loop-at.shelf c.put_message.new.shelf c.loop-at-test.true (get_or_default c.args.messages.now c.loop-at.at _ _ c.loop-at-test.true)
      c.loop-at.invariant.messages c.in_ok-put_message.ensures;
  keys = λ k. c.in_ok-put_message.ensures.kept k ∙ c.loop-at.invariant.keys k;
}
