use Rattle.std.proofs.Common.{◌+◌}
use Rattle.dumpi_calls.proofs.InPlace.{more_passed}
use Rattle.dumpi_calls.proofs.lines.exchanged_front.Goals as goal

pub returns-clause-says : goal.returns-clause-says
returns-clause-says c =
    more_passed (c.passed_front-sends.result.0 + c.passed_front-sent.result.0 + c.passed_front-receives.result.0) c.passed_front-received.result.0 c.args.text.now c.passed_front-receives.result.1.now c.passed_front-received.result.1.now
    (more_passed (c.passed_front-sends.result.0 + c.passed_front-sent.result.0) c.passed_front-receives.result.0 c.args.text.now c.passed_front-sent.result.1.now c.passed_front-receives.result.1.now
    (more_passed (c.passed_front-sends.result.0) c.passed_front-sent.result.0 c.args.text.now c.passed_front-sends.result.1.now c.passed_front-sent.result.1.now
    (c.passed_front-sends.ensures.says)
    c.passed_front-sent.ensures.says)
    c.passed_front-receives.ensures.says)
    c.passed_front-received.ensures.says
