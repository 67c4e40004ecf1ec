use Rattle.std.proofs.Common.{sym}
use Rattle.trace_report.proofs.Printing.{nothing, reads, then}
use Rattle.trace_report.proofs.Arrays.{ranks_next}
use Rattle.trace_report.proofs.json.ranks.put_ranks.Goals as goal

pub loop-rank-init : goal.loop-rank-init
loop-rank-init g c = nothing (g.S.Sink.page c.args.out.now)

pub loop-rank-preserved : goal.loop-rank-preserved
loop-rank-preserved g c = reads (then c.loop-rank.invariant c.put_item.ensures) (sym (ranks_next c.args.answer.now c.loop-rank.rank))
