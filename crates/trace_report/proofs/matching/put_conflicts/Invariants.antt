use Rattle.std.proofs.Common.{take}
use Rattle.std.specs.List.{flat_map}
use Rattle.trace_report.specs.Page.{Prints}
use Rattle.trace_report.specs.Report.{conflict_line}
use Rattle.trace_report.proofs.matching.put_conflicts.Given as goal

abbrev pub invariant-loop-at : goal.invariant-loop-at
invariant-loop-at g l = Prints (g.S.Sink.page l.fn.out) (g.S.Sink.page l.out) (flat_map conflict_line (take l.at-index l.places))
