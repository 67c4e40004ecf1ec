use Rattle.trace_report.specs.Json.{rank_fields}
use Rattle.trace_report.proofs.Printing.{reads}
use Rattle.trace_report.proofs.json.ranks.put_rank.Goals as goal

pub returns : goal.returns
returns g c =
    reads c.put_fields.ensures (λ i. rank_fields c.args.rank (c.prefix_at-prefix.ensures i) (c.state_at-state.ensures i) (c.is_beyond-beyond.ensures i) (c.is_unread-unread.ensures i))
