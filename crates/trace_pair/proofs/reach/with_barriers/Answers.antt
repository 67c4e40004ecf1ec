use Rattle.std.proofs.Common.{◌∙◌, ap, sym, true, false, ℕ, Vec}
use Rattle.std.specs.declared.alloc.Global.{Global}
use Rattle.trace_pair.specs.Reach.{has_barrier, row_at}
use Rattle.trace_pair.proofs.Rowed.{kept}
use Rattle.trace_pair.proofs.reach.with_barriers.Goals as goal
use Rattle.trace_pair.proofs.reach.with_barriers.Goals.{then-has_barrier_on+in_ok-push, else-has_barrier_on}

pub loop-comm-preserved : goal.loop-comm-preserved
loop-comm-preserved c =
    let p = λ (n : ℕ). has_barrier (row_at c.args.rows.now n) in
    elim c.if-has_barrier_on.branch [
      | then-has_barrier_on+in_ok-push w ↦ kept p c.args.comms.now c.loop-comm.comm-index _ _ true c.loop-comm-test.true (sym w.if-has_barrier_on.true ∙ c.has_barrier_on.ensures) c.loop-comm.invariant
          (ap (λ (v : Vec ℕ Global). v.items) w.found-is ∙ w.in_ok-push.ensures.items)
      | else-has_barrier_on w ↦ kept p c.args.comms.now c.loop-comm.comm-index _ _ false c.loop-comm-test.true (sym w.if-has_barrier_on.false ∙ c.has_barrier_on.ensures) c.loop-comm.invariant
          (ap (λ (v : Vec ℕ Global). v.items) w.found-is)
    ]
