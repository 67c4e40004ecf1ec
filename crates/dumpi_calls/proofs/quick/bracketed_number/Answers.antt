use Rattle.std.proofs.Common.{arith}
use Rattle.std.proofs.lemmas.Grind.{common_steps}
use Rattle.dumpi_calls.proofs.QuickNumber.{bracketed_value}
use Rattle.dumpi_calls.proofs.quick.bracketed_number.Goals as goal

pub returns : goal.returns
returns c =
    let front = c.digits_front-value.ensures in
    let value = bracketed_value c.args.text.now c.digits_front-value.result.1 (omega arith) (omega arith) (omega arith) front.digits (omega (arith, front.number, front.range)) in
    grind (arith, common_steps, value, front.number)
