use Rattle.std.proofs.Common.{◌++◌, ◌∷◌, ◌+◌, [], ℕ, List, ap, refl, sym, ◌∙◌}
use Rattle.comm_makings.proofs.Places.{numbers_from_more}
use Rattle.comm_makings.proofs.intercomms.places_from.Goals as goal

pub loop-i-preserved : goal.loop-i-preserved
loop-i-preserved c =
    c.in_ok-push.ensures.items ∙ ap (λ (l : List ℕ). l ++ (c.args.first + c.loop-i.i) ∷ []) c.loop-i.invariant
    ∙ sym (numbers_from_more c.args.first c.loop-i.i (c.args.first + c.loop-i.i) refl)
