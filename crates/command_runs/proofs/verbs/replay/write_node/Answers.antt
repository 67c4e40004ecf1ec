use Rattle.trace_report.specs.Report.{report_text}
use Rattle.command_runs.specs.Replays.{node_line}
use Rattle.command_runs.proofs.Nodes.{appends_both, front_after, front_before, on_err}
use Rattle.command_runs.proofs.verbs.replay.write_node.Goals as goal

pub returns-in_err-write_line-clause-err : goal.returns-in_err-write_line-clause-err
returns-in_err-write_line-clause-err g c =
    on_err c.from_residual.result (front_before _ _ (node_line c.args.n) (report_text c.args.answer.now) c.in_err-write_line.ensures.err)

pub returns-in-Ok-clause-ok : goal.returns-in-Ok-clause-ok
returns-in-Ok-clause-ok g c =
    appends_both _ _ _ (node_line c.args.n) (report_text c.args.answer.now) c.in_ok-write_line.ensures.ok c.in-Ok.ensures.ok

pub returns-in-Err-clause-err : goal.returns-in-Err-clause-err
returns-in-Err-clause-err g c =
    let front = c.in-Err.ensures.err in
    front_after _ _ _ (node_line c.args.n) (report_text c.args.answer.now) c.in_ok-write_line.ensures.ok (front.0, front.1, front.3)
