use Rattle.std.proofs.Common.{take}
use Rattle.trace_report.specs.Json.{joined}
use Rattle.trace_report.specs.Page.{Prints}
use Rattle.trace_report.proofs.json.array.put_all.Given as goal

abbrev pub invariant-loop-i : goal.invariant-loop-i
invariant-loop-i g l = Prints (g.S.Sink.page l.fn.out) (g.S.Sink.page l.out) (joined g.T.Value.value (take l.i l.items))
