use Rattle.std.proofs.Common.{rules}
use Rattle.trace_report.specs.Forms.{text_in}
use Rattle.trace_report.proofs.Finished.{given_back}
use Rattle.trace_report.proofs.Printing.{then}
use Rattle.trace_report.proofs.report.print.Goals as goal

pub returns : goal.returns
returns g c =
    let e = given_back _ _ (text_in c.args.form c.args.answer.now) c.new.ensures c.flush.ensures.empty (then c.put_form.ensures c.flush.ensures.prints) in
    search (rules, e)
