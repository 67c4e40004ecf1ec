use Rattle.std.proofs.Common.{sym}
use Rattle.trace_report.proofs.Printing.{then, reads, nothing}
use Rattle.trace_report.proofs.Arrays.{joined_next}
use Rattle.trace_report.proofs.json.array.put_all.Goals as goal

pub loop-i-preserved : goal.loop-i-preserved
loop-i-preserved g c =
    reads (then c.loop-i.invariant c.put_item.ensures)
    (sym (joined_next g.T.Value.value c.args.items.now c.loop-i.i c.index-items-i.result c.index-items-i.result c.loop-i-test.true c.index-items-i.is))

pub loop-i-init : goal.loop-i-init
loop-i-init g c = nothing (g.S.Sink.page c.args.out.now)
