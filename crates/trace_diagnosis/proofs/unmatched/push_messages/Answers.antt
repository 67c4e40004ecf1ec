use Rattle.std.proofs.Common.{ap, take}
use Rattle.std.proofs.lemmas.List.{get_or_default}
use Rattle.trace_diagnosis.specs.Nearest.{near_message_at, near_message_of}
use Rattle.trace_diagnosis.proofs.Telling.{goes_on_messages, pushed_more}
use Rattle.trace_diagnosis.proofs.unmatched.push_messages.Goals as goal

pub loop-place-preserved : goal.loop-place-preserved
loop-place-preserved c =
    let lt = c.loop-place-test.true in
    pushed_more (near_message_at c.args.why c.args.q.now c.args.messages.now) c.args.places.now c.loop-place.place-index _ c.args.near.now.items c.loop-place.near.items _ (near_message_of c.args.why c.args.q.now c.message_at.result) lt (get_or_default c.args.places.now c.loop-place.place-index _ _ lt)
    c.loop-place.invariant c.in_ok-push_message_of.ensures (ap (near_message_of c.args.why c.args.q.now) c.message_at.ensures)

pub returns-clause-sort : goal.returns-clause-sort
returns-clause-sort c =
    goes_on_messages c.args.why c.args.q.now c.args.messages.now (take c.loop-place.place-index c.args.places.now) c.args.near.now.items c.loop-place.near.items c.loop-place.invariant
