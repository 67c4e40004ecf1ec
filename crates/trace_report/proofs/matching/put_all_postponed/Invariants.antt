use Rattle.std.proofs.Common.{take}
use Rattle.std.specs.List.{flat_map}
use Rattle.trace_report.specs.Page.{Prints}
use Rattle.trace_report.specs.Report.{postponed_line}
use Rattle.trace_report.proofs.matching.put_all_postponed.Given as goal

abbrev pub invariant-loop-name : goal.invariant-loop-name
invariant-loop-name g l = Prints (g.S.Sink.page l.fn.out) (g.S.Sink.page l.out) (flat_map postponed_line (take l.name-index l.names))
