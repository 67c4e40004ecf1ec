use Rattle.trace_diagnosis.specs.Near.{is_near}
use Rattle.trace_diagnosis.proofs.Telling.{told_none, told_one}
use Rattle.trace_diagnosis.proofs.unmatched.push_message.Goals as goal

pub returns-then-not-is_near : goal.returns-then-not-is_near
returns-then-not-is_near c = told_none c.args.near.now.items (record { why = c.args.why; message = c.args.m.now; by = c.args.by }) (is_near c.args.why c.args.m.now c.args.q.now) c.is_near.result c.is_near.ensures c.if-not-is_near.true

pub returns : goal.returns
returns c = told_one c.args.near.now.items _ (record { why = c.args.why; message = c.args.m.now; by = c.args.by }) (is_near c.args.why c.args.m.now c.args.q.now) c.is_near.result c.is_near.ensures c.if-not-is_near.false c.in_ok-push.ensures.items
