use Rattle.std.proofs.Common.{◌∙◌, [], ◌∷◌, None, Some, ap, sym, arith, is_some, length-append, true, false}
use Rattle.comm_makings.proofs.GivenHandles.{count_more, given_more}
use Rattle.comm_makings.proofs.object_view.given_of.Goals as goal
use Rattle.comm_makings.proofs.object_view.given_of.Goals.{else-is_some+in_ok-push-2, then-is_some+in_ok-push}

pub loop-call-preserved : goal.loop-call-preserved
loop-call-preserved c = elim c.if-is_some.branch [
  | then-is_some+in_ok-push w ↦
      let f = ap is_some (sym c.number_given.ensures) ∙ sym c.is_some.ensures ∙ w.if-is_some.true in
      let more = count_more c.args.object c.args.calls.now c.loop-call.call-index c.call-item.result c.loop-call-test.true c.call-item.is c.loop-call.count true f c.loop-call.invariant.count in
      rw w.given-is (rw w.count-is (rw w.in_ok-push.ensures.items (record {
        count = more;
        each = given_more c.args.object c.args.calls.now c.loop-call.call-index c.call-item.result c.loop-call-test.true c.call-item.is c.loop-call.given.items c.loop-call.count true f
            c.loop-call.invariant.count c.loop-call.invariant.length c.loop-call.invariant.each;
        length = omega (arith, length-append c.loop-call.given.items (Some c.loop-call.count ∷ []), c.loop-call.invariant.length);
      })))
  | else-is_some+in_ok-push-2 w ↦
      let f = ap is_some (sym c.number_given.ensures) ∙ sym c.is_some.ensures ∙ w.if-is_some.false in
      let more = count_more c.args.object c.args.calls.now c.loop-call.call-index c.call-item.result c.loop-call-test.true c.call-item.is c.loop-call.count false f c.loop-call.invariant.count in
      rw w.given-is (rw w.count-is (rw w.in_ok-push-2.ensures.items (record {
        count = omega (arith, more);
        each = given_more c.args.object c.args.calls.now c.loop-call.call-index c.call-item.result c.loop-call-test.true c.call-item.is c.loop-call.given.items c.loop-call.count false f
            c.loop-call.invariant.count c.loop-call.invariant.length c.loop-call.invariant.each;
        length = omega (arith, length-append c.loop-call.given.items (None ∷ []), c.loop-call.invariant.length);
      })))
]
