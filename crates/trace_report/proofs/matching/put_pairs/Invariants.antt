use Rattle.std.proofs.Common.{take}
use Rattle.std.specs.List.{flat_map}
use Rattle.trace_report.specs.Page.{Prints}
use Rattle.trace_report.specs.Report.{pair_line}
use Rattle.trace_report.proofs.matching.put_pairs.Given as goal

abbrev pub invariant-loop-pair : goal.invariant-loop-pair
invariant-loop-pair g l = Prints (g.S.Sink.page l.fn.out) (g.S.Sink.page l.out) (flat_map pair_line (take l.pair-index l.pairs))
