use Rattle.std.proofs.Common.{arith}
use Rattle.std.proofs.lemmas.Grind.{common_steps}
use Rattle.dumpi_text.proofs.QuickTime.{quick_rest, quick_value}
use Rattle.dumpi_text.proofs.time.quick_time.Goals as goal

pub returns-clause-rest : goal.returns-clause-rest
returns-clause-rest c =
    quick_rest c.args.stop c.args.text.now c.seconds_front-seconds.result.1 (omega arith) c.seconds_front-seconds.ensures.digits (omega arith) (omega arith)
    c.in_ok-nanoseconds.ensures.digits c.requires.no_digit c.requires.no_point

pub returns-clause-value : goal.returns-clause-value
returns-clause-value c =
    let value = quick_value c.args.stop c.args.text.now c.seconds_front-seconds.result.1 (omega arith) (omega arith) c.seconds_front-seconds.ensures.digits (omega arith) (omega arith)
    c.in_ok-nanoseconds.ensures.digits c.requires.no_digit c.requires.no_point (omega (arith, c.seconds_front-seconds.ensures.number)) in
    first_of (cc (value, c.seconds_front-seconds.ensures.number, c.in_ok-nanoseconds.ensures.number), grind (arith, common_steps, value, c.seconds_front-seconds.ensures.number, c.in_ok-nanoseconds.ensures.number))
