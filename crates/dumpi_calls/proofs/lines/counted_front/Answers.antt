use Rattle.std.proofs.Common.{◌+◌}
use Rattle.dumpi_calls.proofs.InPlace.{more_passed}
use Rattle.dumpi_calls.proofs.lines.counted_front.Goals as goal

pub returns-clause-says : goal.returns-clause-says
returns-clause-says c =
    more_passed (c.passed_front-count.result.0 + c.passed_front-datatype.result.0) c.passed_front-op.result.0 c.args.text.now c.passed_front-datatype.result.1.now c.passed_front-op.result.1.now
    (more_passed (c.passed_front-count.result.0) c.passed_front-datatype.result.0 c.args.text.now c.passed_front-count.result.1.now c.passed_front-datatype.result.1.now
    (c.passed_front-count.ensures.says)
    c.passed_front-datatype.ensures.says)
    c.passed_front-op.ensures.says
