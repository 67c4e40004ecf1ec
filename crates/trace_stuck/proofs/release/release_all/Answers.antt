use Rattle.std.proofs.Common.{◌≡◌, ◌+◌, ◌<◌, ◌∙◌, ℕ, List, length, get_or, arith, sym, subst, ap, Vec, Global}
use Rattle.std.proofs.lemmas.Grind.{get_or_default_zero}
use Rattle.trace_stuck.specs.Release.{among}
use Rattle.trace_stuck.specs.Named.{at_rank}
use Rattle.trace_stuck.specs.Queue.{Ready}
use Rattle.trace_stuck.proofs.Queues.{ready_start, ready_turn, ready_end}
use Rattle.trace_stuck.proofs.release.release_all.Goals as goal

pub loop-at-init : goal.loop-at-init
loop-at-init c = record {
  len = c.in_ok-try_all.ensures.len ∙ c.in_ok-able.ensures.len;
  within = omega arith;
  ready = c.in_ok-try_all.ensures.ready (rw c.new-release.ensures.items (ready_start c.args.states.now c.args.conditions.now c.in_ok-able.able.items
      (omega (arith, c.in_ok-able.able.ok.0, c.in_ok-able.ensures.len)) c.in_ok-able.ensures.flags));
}

turned : (askers : List (Vec ℕ Global)) (release : List ℕ) (at r : ℕ) (ranks : List ℕ) → at < length release → r ≡ get_or release at r → ranks ≡ at_rank askers r → ranks ≡ at_rank askers (get_or release at 0)
turned askers release at r ranks lt e f = f ∙ ap (at_rank askers) (e ∙ get_or_default_zero release at r lt)

pub loop-at-preserved : goal.loop-at-preserved
loop-at-preserved c =
    let i = c.loop-at.invariant in
    let m = c.in_ok-try_ranks.ensures in
    let lt : c.loop-at.at < length c.loop-at.release.items = omega (arith, c.loop-at-test.true, c.loop-at.release.ok.0, c.len.ensures) in
    let ranks : c.askers_at-ranks.result.now ≡ at_rank c.in_ok-askers.askers.items (get_or c.loop-at.release.items c.loop-at.at 0) =
    turned c.in_ok-askers.askers.items c.loop-at.release.items c.loop-at.at c.index.result.now c.askers_at-ranks.result.now lt c.index.ensures
    (c.askers_at-ranks.ensures ∙ ap (λ (l : List (Vec ℕ Global)). at_rank l c.index.result.now) c.deref.ensures.value) in
    let turn = ready_turn c.args.states.now c.args.conditions.now c.loop-at.at c.loop-at.able.items c.loop-at.release.items c.in_ok-askers.askers.items lt c.in_ok-askers.ensures.asked i.ready in
    record {
      len = m.len ∙ i.len;
      within = omega (arith, lt, m.grows, c.try_ranks.new.release.ok.0);
      ready = m.ready (c.loop-at.at + 1) (omega (arith, lt))
          (subst (λ (l : List ℕ). Ready c.args.states.now c.args.conditions.now (c.loop-at.at + 1) (among l) c.loop-at.able.items c.loop-at.release.items) (sym ranks) turn);
    }

pub returns-clause-rest : goal.returns-clause-rest
returns-clause-rest c =
    ready_end c.args.states.now c.args.conditions.now c.loop-at.at c.loop-at.able.items c.loop-at.release.items
    (omega (arith, c.loop-at-test.false, c.loop-at.release.ok.0, c.len.ensures)) c.loop-at.invariant.ready
