use Rattle.std.proofs.Common.{◌≡◌, ◌+◌, ◌<◌, ◌⊎◌, ◌∙◌, ℕ, List, [], true, length, drop, get_or, arith, sym, subst, inl, inr, ⊎_elim, eqb}
use Rattle.std.proofs.lemmas.List.{drop_more}
use Rattle.std.proofs.Math.ListN.{drop_of_length-le}
use Rattle.trace_stuck.specs.Queue.{nobody}
use Rattle.trace_stuck.specs.Release.{among}
use Rattle.trace_stuck.proofs.Holds.{either}
use Rattle.trace_stuck.proofs.Orders.{is_equal}
use Rattle.trace_stuck.proofs.Queues.{ready_tried, ready_weaken, tried_grows}
use Rattle.trace_stuck.proofs.release.try_ranks.Goals as goal

next_in : (ranks : List ℕ) (i : ℕ) → i < length ranks → (s : ℕ) → among (drop i ranks) s ≡ true → (s ≡ get_or ranks i 0) ⊎ (among (drop (i + 1) ranks) s ≡ true)
next_in ranks i lt s h =
    ⊎_elim (λ (e : eqb (get_or ranks i 0) s ≡ true). inl (sym (is_equal (get_or ranks i 0) s e))) (λ (e : among (drop (i + 1) ranks) s ≡ true). inr e)
    (either (eqb (get_or ranks i 0) s) (among (drop (i + 1) ranks) s) (subst (λ (l : List ℕ). among l s ≡ true) (drop_more ranks i 0 lt) h))

pub loop-r-preserved : goal.loop-r-preserved
loop-r-preserved c =
    let g = tried_grows c.args.states.now c.args.conditions.now _ _ _ _ _ _ c.in_ok-try_rank.ensures.turn in
    let lt : c.loop-r.r-index < length c.args.ranks.now = omega arith in
    record {
      len = c.try_rank.ensures.len ∙ c.loop-r.invariant.len;
      grows = omega (arith, g, c.loop-r.invariant.grows);
      ready = λ from le start.
          ready_tried c.args.states.now c.args.conditions.now from (among (drop c.loop-r.r-index c.args.ranks.now)) (among (drop (c.loop-r.r-index + 1) c.args.ranks.now))
          (get_or c.args.ranks.now c.loop-r.r-index 0) c.loop-r.able.items c.loop-r.release.items
          (omega (arith, le, c.loop-r.invariant.grows)) (c.loop-r.invariant.ready from le start) (next_in c.args.ranks.now c.loop-r.r-index lt) _ _ c.in_ok-try_rank.ensures.turn;
    }

pub returns-clause-ready : goal.returns-clause-ready
returns-clause-ready c = λ from le start.
    let e : drop c.loop-r.r-index c.args.ranks.now ≡ [] = drop_of_length-le c.args.ranks.now (omega arith) in
    ready_weaken c.args.states.now c.args.conditions.now from (among (drop c.loop-r.r-index c.args.ranks.now)) nobody c.loop-r.able.items c.loop-r.release.items
    (λ s w n. subst (λ (l : List ℕ). among l s ≡ true) e n) (c.loop-r.invariant.ready from le start)
