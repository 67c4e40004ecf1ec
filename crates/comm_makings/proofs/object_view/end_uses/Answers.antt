use Rattle.std.proofs.Common.{◌∙◌, sym}
use Rattle.comm_makings.proofs.ObjectSteps.{no_end, one_end}
use Rattle.comm_makings.proofs.object_view.end_uses.Goals as goal
use Rattle.comm_makings.proofs.object_view.end_uses.Goals.{in-Some+in_ok-push, in_default}

pub loop-call-preserved : goal.loop-call-preserved
loop-call-preserved c = elim c.match-number_ended.branch [
  | in-Some+in_ok-push w ↦
      rw w.uses-is
      (w.in_ok-push.ensures.items
      ∙ one_end c.args.object c.args.calls.now c.loop-call.call-index c.call-item.result w.in-Some.number c.loop-call.uses.items c.loop-call-test.true c.call-item.is (sym w.in-Some.ensures) c.loop-call.invariant)
  | in_default w ↦
      rw w.uses-is
      (no_end c.args.object c.args.calls.now c.loop-call.call-index c.call-item.result c.loop-call.uses.items c.loop-call-test.true c.call-item.is (sym w.in_default.ensures) c.loop-call.invariant)
]
