use Rattle.std.proofs.Common.{arith, inl, refl}
use Rattle.trace_report.specs.Report.{report_text}
use Rattle.command_runs.proofs.Runs.{run_refused}
use Rattle.command_runs.proofs.verbs.report.report.Goals as goal

pub returns-in_err-answer-clause-ran : goal.returns-in_err-answer-clause-ran
returns-in_err-answer-clause-ran g c =
    run_refused _ _ _ c.from_residual.result c.in_err-answer.field-0.0 g.W.Write.written g.W.Write.failures c.args.out.now c.from_residual.ensures.1 c.in_err-answer.ensures.err

pub returns-in-Ok-clause-ran : goal.returns-in-Ok-clause-ran
returns-in-Ok-clause-ran g c =
    let answer = c.in_ok-answer.answer in
    let of = c.in_ok-answer.ensures.ok in
    (refl, (report_text answer, (of.0, of.1, (answer, of.2, refl)), c.in-Ok.ensures.ok))

pub returns-clause-ran : goal.returns-clause-ran
returns-clause-ran g c =
    let answer = c.in_ok-answer.answer in
    let of = c.in_ok-answer.ensures.ok in
    let front = c.in-Err.ensures.err in
    let once = c.in-Err.ensures.failures.1 in
    inl (refl, ((report_text answer, (of.0, of.1, (answer, of.2, refl)), (front.0, front.1, front.3)), omega (arith, once)))
