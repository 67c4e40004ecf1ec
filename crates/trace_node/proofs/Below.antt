-- What is known is no less than it was.
use Rattle.std.proofs.Common.{◌≡◌, ◌∙◌, Option, Some, None, ap, refl, subst, sym}
use Rattle.trace_know.specs.Cell.{IsAtMost}
use Rattle.trace_know.specs.View.{View, IsBelow, cell, join}
use Rattle.trace_know.specs.declared.cell.Known.{Known}
use Rattle.trace_know.specs.declared.cell.Known.TheVariants.{One, Contradiction}

-- nothing is known less than itself
at_most_itself : (known : Option Known) → IsAtMost known known
at_most_itself None = tt
at_most_itself (Some (One event)) = refl
at_most_itself (Some Contradiction) = tt

-- what is known is no less than it is
pub below_itself : (view : View) → IsBelow view view
below_itself view = λ rank place. at_most_itself (cell view rank place)

-- What was below what is known is below all that is known once more was joined.
pub below_join : (old know more : View) → ((one other : View) → IsBelow one (join one other)) → ((a b c : View) → join (join a b) c ≡ join a (join b c)) → ((a b : View) → join a b ≡ join b a)
    → ((a b : View) → IsBelow b a → join a b ≡ a) → IsBelow old know → IsBelow old (join know more)
below_join old know more above associative commutative below is =
    let both : join old know ≡ know = commutative old know ∙ below know old is in
    subst (λ (v : View). IsBelow old v) (sym (associative old know more) ∙ ap (λ v. join v more) both) (above old (join know more))
