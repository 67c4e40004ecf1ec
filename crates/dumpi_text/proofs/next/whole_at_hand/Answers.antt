use Rattle.std.proofs.Common.{ℕ, List, Option, IfOk, IfSome, subst}
use Rattle.dumpi_text.specs.WholeKept.{StandsKept}
use Rattle.dumpi_text.proofs.next.whole_at_hand.Goals as goal

pub returns-clause-stands : goal.returns-clause-stands
returns-clause-stands g c =
    subst (λ (t : List ℕ). IfOk c.whole_front.result (λ (found : Option (ℕ × ℕ)). IfSome found (λ (x : ℕ × ℕ). StandsKept g.K.Keeping.choice c.args.at.now t x.0 x.1 c.whole_front.new.call)))
    c.at_hand.ensures c.whole_front.ensures.stands
