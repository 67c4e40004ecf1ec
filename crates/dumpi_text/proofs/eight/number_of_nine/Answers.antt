use Rattle.std.proofs.Common.{arith}
use Rattle.dumpi_text.proofs.EightDigits.{front_digits, one_digit_more}
use Rattle.dumpi_text.proofs.eight.number_of_nine.Goals as goal

pub number_of_eight-front-requires-clause-digits : goal.number_of_eight-front-requires-clause-digits
number_of_eight-front-requires-clause-digits c = front_digits c.args.digits.now 8 c.requires.digits

pub returns-clause-value : goal.returns-clause-value
returns-clause-value c = one_digit_more c.args.digits.now 8 c.number_of_eight-front.result _ c.requires.nine c.number_of_eight-front.ensures.value (omega arith)
