use Rattle.std.proofs.Common.{arith, of_z, to_z, w64}
use Rattle.std.proofs.lemmas.Int.{ints}
use Rattle.dumpi_calls.proofs.NumberLines.{negative_told}
use Rattle.dumpi_calls.proofs.number_lines.negative_line.Goals as goal

pub returns : goal.returns
returns c =
    let front = c.digits_front-magnitude.ensures in
    negative_told c.args.text.now c.digits_front-magnitude.result.1 c.digits_front-magnitude.result.0 (omega arith) (omega arith) front.within front.digits front.number front.range
    c.in_ok-name.name (to_z w64 (of_z w64 c.negative.result)) c.in_ok-name.rest.now (omega (arith, ints, c.negative.ensures, front.range)) c.in_ok-name.ensures
