use Rattle.std.proofs.Common.{sym}
use Rattle.trace_report.specs.Report.{pair_line}
use Rattle.trace_report.proofs.Printing.{nothing, reads, then}
use Rattle.trace_report.proofs.Each.{lines_next}
use Rattle.trace_report.proofs.matching.put_pairs.Goals as goal

pub loop-pair-init : goal.loop-pair-init
loop-pair-init g c = nothing (g.S.Sink.page c.args.out.now)

pub loop-pair-preserved : goal.loop-pair-preserved
loop-pair-preserved g c =
    reads (then c.loop-pair.invariant c.put_pair.ensures) (sym (lines_next pair_line c.args.pairs.now c.loop-pair.pair-index _ c.loop-pair-test.true))
