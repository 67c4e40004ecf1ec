use Rattle.std.proofs.Common.{List, ℕ, arith, subst, sym, to_z, w64}
use Rattle.std.proofs.lemmas.Int.{ints}
use Rattle.dumpi_text.specs.declared.number.NumName.TheVariants.{Other}
use Rattle.dumpi_calls.specs.InPlace.{EndsNote}
use Rattle.dumpi_calls.proofs.NumberLines.{digits_told}
use Rattle.dumpi_calls.proofs.number_lines.digits_before.Goals as goal

pub returns : goal.returns
returns c =
    let front = c.digits_front-value.ensures in
    let rest = c.in_ok-rest.rest.now in
    digits_told c.args.text.now c.digits_front-value.result.1 c.digits_front-value.result.0 (omega arith) (omega arith) front.within front.digits front.number front.range
    Other (to_z w64 c.digits_front-value.result.0) rest (omega (arith, ints, front.range)) (subst (λ (t : List ℕ). EndsNote Other t rest) (sym c.in_ok-rest.ensures.whole) (c.requires rest))
