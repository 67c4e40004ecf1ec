use Rattle.std.proofs.Common.{◌∙◌, ◌+◌, ℕ, ap, is_some, sym}
use Rattle.comm_makings.proofs.Walks.{given_more, given_past}
use Rattle.comm_makings.proofs.grids.given_places.Goals as goal
use Rattle.comm_makings.proofs.grids.given_places.Goals.{then-is_some+in_ok-push, else-is_some}

pub loop-here-preserved : goal.loop-here-preserved
loop-here-preserved c = elim c.if-is_some.branch [
  | then-is_some+in_ok-push w ↦ record {
    counted = ap (λ (n : ℕ). n + 1) c.loop-here.invariant.counted;
    rest = rw w.places-is (rw w.in_ok-push.ensures.items
        (given_more c.args.all.now c.loop-here.place c.loop-here.here-index c.loop-here-test.true c.loop-here.places.items
        (ap is_some (sym c.handle_of.ensures) ∙ sym c.is_some.ensures ∙ w.if-is_some.true) ∙ c.loop-here.invariant.rest));
  }
  | else-is_some w ↦ record {
    counted = ap (λ (n : ℕ). n + 1) c.loop-here.invariant.counted;
    rest = rw w.places-is
        (given_past c.args.all.now c.loop-here.place c.loop-here.here-index c.loop-here-test.true c.loop-here.places.items
        (ap is_some (sym c.handle_of.ensures) ∙ sym c.is_some.ensures ∙ w.if-is_some.false) ∙ c.loop-here.invariant.rest);
  }
]
