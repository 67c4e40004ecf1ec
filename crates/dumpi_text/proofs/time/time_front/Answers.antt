use Rattle.std.proofs.Common.{arith}
use Rattle.dumpi_text.proofs.QuickTime.{time_there}
use Rattle.dumpi_text.proofs.time.time_front.Goals as goal

pub returns-clause-there : goal.returns-clause-there
returns-clause-there c =
    let seconds = c.seconds_front-seconds.ensures in
    time_there c.args.text.now c.seconds_front-seconds.result.1 c.seconds_front-seconds.result.0 c.in_ok-nanoseconds.nanoseconds _ (omega arith) (omega arith) (omega arith) seconds.digits (omega arith)
    c.in_ok-nanoseconds.ensures.digits seconds.number seconds.range c.in_ok-nanoseconds.ensures.number (omega arith)
