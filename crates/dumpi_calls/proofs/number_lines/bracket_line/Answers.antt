use Rattle.std.proofs.Common.{arith, to_z, w64}
use Rattle.std.proofs.lemmas.Int.{ints}
use Rattle.dumpi_calls.proofs.NumberLines.{bracket_told}
use Rattle.dumpi_calls.proofs.number_lines.bracket_line.Goals as goal

pub returns : goal.returns
returns c =
    let front = c.digits_front-value.ensures in
    bracket_told c.args.text.now c.digits_front-value.result.1 c.digits_front-value.result.0 (omega arith) (omega arith) front.within front.digits front.number front.range
    (to_z w64 c.digits_front-value.result.0) c.in_ok-rest.rest.now (omega (arith, ints, front.range)) c.in_ok-rest.ensures.whole
