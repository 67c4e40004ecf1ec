use Rattle.std.proofs.Common.{◌≡◌, ℕ, ◌+◌, ◌<◌, List, ◌∷◌, length, drop, get_or, sym, subst, ap, ◌∙◌, arith, add-one, drop-cons}
use Rattle.comm_makings.proofs.Marks.{AreMarked, marked}
use Rattle.comm_makings.proofs.outcomes.cover.Goals as goal

pub loop-place-preserved : goal.loop-place-preserved
loop-place-preserved c =
    let i : ℕ = c.loop-place.place-index in
    let places : List ℕ = c.args.places.now in
    let p : ℕ = get_or places i 0 in
    let below : i < length places = omega arith in
    let behind : drop i places ≡ p ∷ drop (i + 1) places =
    drop-cons places i 0 below ∙ ap (λ (n : ℕ). p ∷ drop n places) (sym (add-one i)) in
    let before : AreMarked c.loop-place.covered.items c.args.covered.now.items (p ∷ drop (i + 1) places) places =
    subst (λ (l : List ℕ). AreMarked c.loop-place.covered.items c.args.covered.now.items l places) behind c.loop-place.invariant in
    rw c.mark.ensures (marked c.loop-place.covered.items c.args.covered.now.items p (drop (i + 1) places) places before)
