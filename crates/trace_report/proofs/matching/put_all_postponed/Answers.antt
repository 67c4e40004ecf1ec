use Rattle.std.proofs.Common.{sym}
use Rattle.trace_report.specs.Report.{postponed_line}
use Rattle.trace_report.proofs.Printing.{nothing, reads, then}
use Rattle.trace_report.proofs.Each.{lines_next}
use Rattle.trace_report.proofs.matching.put_all_postponed.Goals as goal

pub loop-name-init : goal.loop-name-init
loop-name-init g c = nothing (g.S.Sink.page c.args.out.now)

pub loop-name-preserved : goal.loop-name-preserved
loop-name-preserved g c =
    reads (then c.loop-name.invariant c.put_postponed.ensures) (sym (lines_next postponed_line c.args.names.now c.loop-name.name-index _ c.loop-name-test.true))
