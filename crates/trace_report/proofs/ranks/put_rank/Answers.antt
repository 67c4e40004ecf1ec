use Rattle.trace_report.specs.Report.{rank_text}
use Rattle.trace_report.proofs.Printing.{reads}
use Rattle.trace_report.proofs.ranks.put_rank.Goals as goal

pub returns : goal.returns
returns g c =
    reads c.put_rank_text.ensures (λ i. rank_text c.args.rank (c.prefix_at-prefix.ensures i) (c.state_at-state.ensures i) (c.is_beyond-beyond.ensures i) (c.is_unread-unread.ensures i))
