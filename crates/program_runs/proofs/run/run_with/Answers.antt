use Rattle.program_runs.proofs.Runs.{ran_as}
use Rattle.program_runs.proofs.run.run_with.Goals as goal

pub returns-in-Explain-clause-ran : goal.returns-in-Explain-clause-ran
returns-in-Explain-clause-ran g c =
    ran_as (g.O.Opener.file c.args.run.now.files.now) c.args.verb _ c.args.run.now.layout.now c.args.run.now.manifest.now c.explain.result g.W.Write.written g.W.Write.failures c.args.out.now c.explain.new.out c.in-Explain.is c.explain.ensures.ran

pub returns-in-ExplainJson-clause-ran : goal.returns-in-ExplainJson-clause-ran
returns-in-ExplainJson-clause-ran g c =
    ran_as (g.O.Opener.file c.args.run.now.files.now) c.args.verb _ c.args.run.now.layout.now c.args.run.now.manifest.now c.explain-in-ExplainJson.result g.W.Write.written g.W.Write.failures c.args.out.now c.explain-in-ExplainJson.new.out c.in-ExplainJson.is c.explain-in-ExplainJson.ensures.ran

pub returns-in-ExplainRank-clause-ran : goal.returns-in-ExplainRank-clause-ran
returns-in-ExplainRank-clause-ran g c =
    ran_as (g.O.Opener.file c.args.run.now.files.now) c.args.verb _ c.args.run.now.layout.now c.args.run.now.manifest.now c.explain-in-ExplainRank.result g.W.Write.written g.W.Write.failures c.args.out.now c.explain-in-ExplainRank.new.out c.in-ExplainRank.is c.explain-in-ExplainRank.ensures.ran

pub returns-in-Graph-clause-ran : goal.returns-in-Graph-clause-ran
returns-in-Graph-clause-ran g c =
    ran_as (g.O.Opener.file c.args.run.now.files.now) c.args.verb _ c.args.run.now.layout.now c.args.run.now.manifest.now c.explain-in-Graph.result g.W.Write.written g.W.Write.failures c.args.out.now c.explain-in-Graph.new.out c.in-Graph.is c.explain-in-Graph.ensures.ran

pub returns-in-Page-clause-ran : goal.returns-in-Page-clause-ran
returns-in-Page-clause-ran g c =
    ran_as (g.O.Opener.file c.args.run.now.files.now) c.args.verb _ c.args.run.now.layout.now c.args.run.now.manifest.now c.page.result g.W.Write.written g.W.Write.failures c.args.out.now c.page.new.out c.in-Page.is c.page.ensures.ran

pub returns-in-Report-clause-ran : goal.returns-in-Report-clause-ran
returns-in-Report-clause-ran g c =
    ran_as (g.O.Opener.file c.args.run.now.files.now) c.args.verb _ c.args.run.now.layout.now c.args.run.now.manifest.now c.report.result g.W.Write.written g.W.Write.failures c.args.out.now c.report.new.out c.in-Report.is c.report.ensures.ran

pub returns-in-ReportJson-clause-ran : goal.returns-in-ReportJson-clause-ran
returns-in-ReportJson-clause-ran g c =
    ran_as (g.O.Opener.file c.args.run.now.files.now) c.args.verb _ c.args.run.now.layout.now c.args.run.now.manifest.now c.report_as_json.result g.W.Write.written g.W.Write.failures c.args.out.now c.report_as_json.new.out c.in-ReportJson.is c.report_as_json.ensures.ran

pub returns-in-Replay-clause-ran : goal.returns-in-Replay-clause-ran
returns-in-Replay-clause-ran g c =
    ran_as (g.O.Opener.file c.args.run.now.files.now) c.args.verb _ c.args.run.now.layout.now c.args.run.now.manifest.now c.replay.result g.W.Write.written g.W.Write.failures c.args.out.now c.replay.new.out c.in-Replay.is c.replay.ensures.ran

pub returns-in-Check-clause-ran : goal.returns-in-Check-clause-ran
returns-in-Check-clause-ran g c =
    ran_as (g.O.Opener.file c.args.run.now.files.now) c.args.verb _ c.args.run.now.layout.now c.args.run.now.manifest.now c.check.result g.W.Write.written g.W.Write.failures c.args.out.now c.check.new.out c.in-Check.is c.check.ensures.ran

pub returns-in-CheckJson-clause-ran : goal.returns-in-CheckJson-clause-ran
returns-in-CheckJson-clause-ran g c =
    ran_as (g.O.Opener.file c.args.run.now.files.now) c.args.verb _ c.args.run.now.layout.now c.args.run.now.manifest.now c.check_as_json.result g.W.Write.written g.W.Write.failures c.args.out.now c.check_as_json.new.out c.in-CheckJson.is c.check_as_json.ensures.ran

pub returns-in-Pack-clause-ran : goal.returns-in-Pack-clause-ran
returns-in-Pack-clause-ran g c =
    ran_as (g.O.Opener.file c.args.run.now.files.now) c.args.verb _ c.args.run.now.layout.now c.args.run.now.manifest.now c.pack.result g.W.Write.written g.W.Write.failures c.args.out.now c.pack.new.out c.in-Pack.is c.pack.ensures.ran

pub returns-in-Calls-clause-ran : goal.returns-in-Calls-clause-ran
returns-in-Calls-clause-ran g c =
    ran_as (g.O.Opener.file c.args.run.now.files.now) c.args.verb _ c.args.run.now.layout.now c.args.run.now.manifest.now c.calls.result g.W.Write.written g.W.Write.failures c.args.out.now c.calls.new.out c.in-Calls.is c.calls.ensures.ran

pub returns-in-Timeline-clause-ran : goal.returns-in-Timeline-clause-ran
returns-in-Timeline-clause-ran g c =
    ran_as (g.O.Opener.file c.args.run.now.files.now) c.args.verb _ c.args.run.now.layout.now c.args.run.now.manifest.now c.timeline.result g.W.Write.written g.W.Write.failures c.args.out.now c.timeline.new.out c.in-Timeline.is c.timeline.ensures.ran
