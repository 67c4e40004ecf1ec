use Rattle.std.proofs.Common.{take, map}
use Rattle.trace_report.specs.Page.{Prints}
use Rattle.trace_report.specs.Waits.{parts_text, words_of}
use Rattle.trace_stuck.specs.Shape.{shape, waits_of}
use Rattle.trace_report.proofs.waits.+wait.Given as goal

abbrev pub invariant-put_parts-loop-i : goal.invariant-put_parts-loop-i
invariant-put_parts-loop-i g l = Prints (g.S.Sink.page l.fn.out) (g.S.Sink.page l.out) (parts_text (words_of l.form) (waits_of (map shape (take l.i l.parts))))
