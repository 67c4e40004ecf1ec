use Rattle.std.proofs.Common.{◌≤◌, ap, arith, decimal, length, length-append, length-drop}
use Rattle.std.proofs.lemmas.Fmt.{length-decimal-le}
use Rattle.trace_report.proofs.line.Line.prepend_number.Goals as goal

pub write_digits-self-inside-requires : goal.write_digits-self-inside-requires
write_digits-self-inside-requires c =
    let short : length (decimal c.args.number) ≤ 20 = length-decimal-le 20 c.args.number (omega arith) (omega arith) c.ranges.number.fits in
    (omega (arith, short, ap length c.self.view_is, length-drop c.self.inside.start c.self.inside.bytes), omega (arith, c.self.invariant))

pub returns-clause-short : goal.returns-clause-short
returns-clause-short c =
    let short : length (decimal c.args.number) ≤ 20 = length-decimal-le 20 c.args.number (omega arith) (omega arith) c.ranges.number.fits in
    rw (c.write_digits-self-inside.ensures.written, c.self.view_is, length-append) (omega (arith, short))
