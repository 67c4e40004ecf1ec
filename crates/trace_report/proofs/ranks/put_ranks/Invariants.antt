use Rattle.trace_report.specs.Page.{Prints}
use Rattle.trace_report.specs.Report.{rank_lines}
use Rattle.trace_report.proofs.ranks.put_ranks.Given as goal

abbrev pub invariant-loop-rank : goal.invariant-loop-rank
invariant-loop-rank g l = Prints (g.S.Sink.page l.fn.out) (g.S.Sink.page l.out) (rank_lines l.answer l.rank)
