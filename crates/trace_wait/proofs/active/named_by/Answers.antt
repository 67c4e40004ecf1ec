use Rattle.std.proofs.Common.{◌≡◌, ◌+◌, ◌-◌, ◌<◌, arith, length}
use Rattle.trace_wait.proofs.Posted.{posted_more}
use Rattle.trace_wait.proofs.active.named_by.Goals as goal

pub loop-at-preserved : goal.loop-at-preserved
loop-at-preserved c =
    let lt : c.loop-at.at - 1 < length c.args.active.now = omega (arith, c.loop-at.invariant.within, c.loop-at-test.true) in
    let e : c.loop-at.at ≡ (c.loop-at.at - 1) + 1 = omega (arith, c.loop-at-test.true) in
    record {
      within = omega (arith, c.loop-at.invariant.within);
      kept = λ x. posted_more c.args.active.now (c.loop-at.at - 1) c.loop-at.at _ x _ _ lt e (c.in_ok-note_post.ensures x) (c.loop-at.invariant.kept x);
    }
