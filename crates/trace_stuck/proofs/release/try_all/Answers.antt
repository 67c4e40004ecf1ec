use Rattle.std.proofs.Common.{◌≡◌, ◌+◌, ◌<◌, ◌≤◌, ◌∙◌, ℕ, true, length, arith}
use Rattle.std.specs.Prelude.{nat_le}
use Rattle.std.proofs.lemmas.Bool.Decides.{nat_tests}
use Rattle.trace_stuck.specs.Queue.{nobody}
use Rattle.trace_stuck.proofs.Flags.{waits_in}
use Rattle.trace_stuck.proofs.Queues.{ready_tried, ready_weaken, next_rank}
use Rattle.trace_stuck.proofs.release.try_all.Goals as goal

pub loop-r-preserved : goal.loop-r-preserved
loop-r-preserved c = record {
  len = c.try_rank.ensures.len ∙ c.loop-r.invariant.len;
  ready = λ start.
      ready_tried c.args.states.now c.args.conditions.now 0 (nat_le c.loop-r.r) (nat_le (c.loop-r.r + 1)) c.loop-r.r c.loop-r.able.items c.loop-r.release.items
      (omega arith) (c.loop-r.invariant.ready start) (next_rank c.loop-r.r) _ _ c.in_ok-try_rank.ensures.turn;
}

pub returns-clause-ready : goal.returns-clause-ready
returns-clause-ready c = λ start.
    ready_weaken c.args.states.now c.args.conditions.now 0 (nat_le c.loop-r.r) nobody c.loop-r.able.items c.loop-r.release.items
    (λ s w n. let lt = waits_in c.args.states.now s w in let ge : length c.args.states.now ≤ c.loop-r.r = omega arith in absurd (past s n lt ge)) (c.loop-r.invariant.ready start)
  where
    past : (s : ℕ) → nat_le c.loop-r.r s ≡ true → s < length c.args.states.now → length c.args.states.now ≤ c.loop-r.r → ⊥
    past s n lt ge = grind (arith, nat_tests)
