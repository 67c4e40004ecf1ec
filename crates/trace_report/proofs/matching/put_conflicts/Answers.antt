use Rattle.std.proofs.Common.{sym}
use Rattle.trace_report.specs.Report.{conflict_line}
use Rattle.trace_report.proofs.Printing.{nothing, reads, then}
use Rattle.trace_report.proofs.Each.{lines_next}
use Rattle.trace_report.proofs.matching.put_conflicts.Goals as goal

pub loop-at-init : goal.loop-at-init
loop-at-init g c = nothing (g.S.Sink.page c.args.out.now)

pub loop-at-preserved : goal.loop-at-preserved
loop-at-preserved g c =
    reads (then c.loop-at.invariant c.put_conflict.ensures) (sym (lines_next conflict_line c.args.places.now c.loop-at.at-index _ c.loop-at-test.true))
