use Rattle.trace_report.specs.Page.{Prints}
use Rattle.trace_report.specs.Json.{rank_objects}
use Rattle.trace_report.proofs.json.ranks.put_ranks.Given as goal

abbrev pub invariant-loop-rank : goal.invariant-loop-rank
invariant-loop-rank g l = Prints (g.S.Sink.page l.fn.out) (g.S.Sink.page l.out) (rank_objects l.answer l.rank)
