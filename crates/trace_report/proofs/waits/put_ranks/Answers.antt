use Rattle.trace_report.specs.Waits.{words_of}
use Rattle.std.proofs.Common.{sym, refl}
use Rattle.trace_stuck.specs.Shape.{OnRank}
use Rattle.trace_report.proofs.Printing.{then, reads, nothing}
use Rattle.trace_report.proofs.Conditions.{parts_next}
use Rattle.trace_report.proofs.waits.put_ranks.Goals as goal

pub loop-i-preserved : goal.loop-i-preserved
loop-i-preserved g c = reads (then c.loop-i.invariant c.put_rank.ensures) (sym (parts_next (words_of c.args.form) OnRank c.args.ranks.now c.loop-i.i 0 _ c.loop-i-test.true refl))

pub loop-i-init : goal.loop-i-init
loop-i-init g c = nothing (g.S.Sink.page c.args.out.now)
