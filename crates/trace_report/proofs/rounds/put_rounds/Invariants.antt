use Rattle.std.proofs.Common.{take}
use Rattle.std.specs.List.{flat_map}
use Rattle.trace_report.specs.Page.{Prints}
use Rattle.trace_report.specs.Report.{round_line}
use Rattle.trace_report.proofs.rounds.put_rounds.Given as goal

abbrev pub invariant-loop-round : goal.invariant-loop-round
invariant-loop-round g l = Prints (g.S.Sink.page l.fn.out) (g.S.Sink.page l.out) (flat_map round_line (take l.round-index l.rounds))
