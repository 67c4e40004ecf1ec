use Rattle.std.proofs.Common.{◌≡◌, ◌≢◌, ◌∙◌, ℕ, ⊎_elim, subst, sym, get_or}
use Rattle.trace_ops.specs.Order.{Has}
use Rattle.trace_pair.proofs.Searched.{same_or_other}
use Rattle.trace_pair.proofs.Tabled.{has_at}
use Rattle.trace_pair.proofs.by_receive.seen_places.Goals as goal

pub loop-place-preserved : goal.loop-place-preserved
loop-place-preserved c = λ i h.
    let p = get_or c.args.places.now c.loop-place.place-index 0 in
    ⊎_elim (λ (e : i ≡ p). subst (λ (j : ℕ). Has c.args.places.now j) (sym e) (has_at c.args.places.now c.loop-place.place-index 0 c.loop-place-test.true))
    (λ (n : i ≢ p). c.loop-place.invariant i (sym (c.see_place.ensures i n) ∙ h))
    (same_or_other i p)
