use Rattle.std.proofs.Common.{arith, to_z, w64}
use Rattle.std.proofs.lemmas.Int.{ints}
use Rattle.dumpi_calls.proofs.NumberLines.{digits_told}
use Rattle.dumpi_calls.proofs.number_lines.digits_line.Goals as goal

pub returns : goal.returns
returns c =
    let front = c.digits_front-value.ensures in
    digits_told c.args.text.now c.digits_front-value.result.1 c.digits_front-value.result.0 (omega arith) (omega arith) front.within front.digits front.number front.range
    c.in_ok-name.name (to_z w64 c.digits_front-value.result.0) c.in_ok-name.rest.now (omega (arith, ints, front.range)) c.in_ok-name.ensures
