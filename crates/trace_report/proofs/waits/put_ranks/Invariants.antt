use Rattle.std.proofs.Common.{take, map}
use Rattle.trace_report.specs.Page.{Prints}
use Rattle.trace_report.specs.Waits.{parts_text, words_of}
use Rattle.trace_stuck.specs.Shape.{OnRank, waits_of}
use Rattle.trace_report.proofs.waits.put_ranks.Given as goal

abbrev pub invariant-loop-i : goal.invariant-loop-i
invariant-loop-i g l = Prints (g.S.Sink.page l.fn.out) (g.S.Sink.page l.out) (parts_text (words_of l.form) (waits_of (map OnRank (take l.i l.ranks))))
