use Rattle.std.proofs.Common.{◌∙◌, ◌++◌, ap, sym, take}
use Rattle.std.specs.List.{flat_map}
use Rattle.trace_wait.specs.declared.round.Round.{Round}
use Rattle.trace_report.specs.Report.{round_line}
use Rattle.trace_report.proofs.Printing.{nothing, reads, then}
use Rattle.trace_report.proofs.Each.{lines_next}
use Rattle.trace_report.proofs.rounds.put_rounds.Goals as goal

pub loop-round-init : goal.loop-round-init
loop-round-init g c = nothing (g.S.Sink.page c.args.out.now)

pub loop-round-preserved : goal.loop-round-preserved
loop-round-preserved g c =
    reads (then c.loop-round.invariant c.put_round.ensures)
    (ap (λ (x : Round). flat_map round_line (take c.loop-round.round-index c.args.rounds.now) ++ round_line x) c.round-item.is
    ∙ sym (lines_next round_line c.args.rounds.now c.loop-round.round-index c.round-item.result c.loop-round-test.true))
