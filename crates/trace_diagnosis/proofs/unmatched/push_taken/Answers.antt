use Rattle.trace_diagnosis.specs.Missed.{IsMessageOf}
use Rattle.trace_diagnosis.proofs.Telling.{goes_on_here, goes_on_message, goes_on_more}
use Rattle.trace_diagnosis.proofs.unmatched.push_taken.Goals as goal

pub loop-one-init : goal.loop-one-init
loop-one-init c = goes_on_here (IsMessageOf c.args.why c.args.q.now) c.args.near.now.items

pub loop-one-preserved : goal.loop-one-preserved
loop-one-preserved c = let is = IsMessageOf c.args.why c.args.q.now in
    goes_on_more is c.args.near.now.items c.loop-one.near.items _ c.loop-one.invariant (goes_on_message c.args.why c.args.q.now _ _ c.loop-one.near.items _ c.in_ok-push_message.ensures)
