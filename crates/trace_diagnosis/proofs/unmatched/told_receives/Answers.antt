use Rattle.std.proofs.Common.{◌∙◌, ◌<◌, arith, length, sym}
use Rattle.trace_diagnosis.specs.Unmatched.{is_of_waiting}
use Rattle.trace_diagnosis.proofs.Keeping.{kept_step, left_step}
use Rattle.trace_diagnosis.proofs.Telling.{stands_among}
use Rattle.trace_diagnosis.proofs.unmatched.told_receives.Goals as goal
use Rattle.trace_diagnosis.proofs.unmatched.told_receives.Goals.{else-is_up, then-is_up+in_ok-near+in_ok-push_starving}

pub near-requires-clause-among : goal.near-requires-clause-among
near-requires-clause-among c = stands_among c.as_slice-starving.result.now _ c.loop-at.at _ c.loop-at-test.true c.as_slice-starving.ensures.value

pub loop-at-preserved : goal.loop-at-preserved
loop-at-preserved c =
    let xs = c.as_slice-starving.result.now in
    let below : c.loop-at.at < length xs = omega arith in
    let told = is_of_waiting c.args.run.now.waits.now in
    elim c.if-is_up.branch [
      | then-is_up+in_ok-near+in_ok-push_starving w ↦ record {
        receives = rw w.told-is (kept_step (λ s. s.receive) told xs c.loop-at.at _ c.loop-at.told.items w.push_starving.new.told.items w.in_ok-push_starving.ensures.receives
            (sym c.is_up.ensures ∙ w.if-is_up.true) c.loop-at.invariant.receives below);
        near = rw w.told-is (w.in_ok-push_starving.ensures.near c.args.found.now.left.items w.in_ok-near.ensures c.loop-at.invariant.near);
      }
      | else-is_up w ↦ record {
        receives = rw w.told-is (left_step (λ s. s.receive) told xs c.loop-at.at _ c.loop-at.told.items (sym c.is_up.ensures ∙ w.if-is_up.false) c.loop-at.invariant.receives below);
        near = rw w.told-is c.loop-at.invariant.near;
      }
    ]
