use Rattle.std.proofs.Common.{rules}
use Rattle.trace_report.specs.Forms.{text_in}
use Rattle.trace_report.proofs.Finished.{broke_off, came_out}
use Rattle.trace_report.proofs.report.write_as.Goals as goal

pub returns-then-failed : goal.returns-then-failed
returns-then-failed g c =
    let r = broke_off _ _ _ _ (text_in c.args.form c.args.answer.now) (search rules) c.if-failed.true c.print-written.ensures in
    record { ok = search rules; length = search rules; err = r.front; failures = (r.later, r.failures); beside = r.beside }

pub returns-else-failed : goal.returns-else-failed
returns-else-failed g c =
    let r = came_out _ _ _ _ (text_in c.args.form c.args.answer.now) (search rules) c.if-failed.false c.print-written.ensures in
    record { ok = r.whole; length = r.all; err = search rules; failures = search (rules, r.failures); beside = r.beside }
