use Rattle.std.proofs.Common.{sym}
use Rattle.trace_report.proofs.Printing.{nothing, reads, then}
use Rattle.trace_report.proofs.Each.{rank_next}
use Rattle.trace_report.proofs.ranks.put_ranks.Goals as goal

pub loop-rank-init : goal.loop-rank-init
loop-rank-init g c = nothing (g.S.Sink.page c.args.out.now)

pub loop-rank-preserved : goal.loop-rank-preserved
loop-rank-preserved g c = reads (then c.loop-rank.invariant c.put_rank.ensures) (sym (rank_next c.args.answer.now c.loop-rank.rank))
