use Rattle.trace_report.proofs.Printing.{then, reads}
use Rattle.trace_report.proofs.ranks.put_rank_text.Goals as goal

pub returns : goal.returns
returns g c =
    then (then (then (then (then (then (then (then c.put.ensures c.put_number.ensures) c.put-2.ensures) c.put_number-2.ensures) c.put-3.ensures) (reads c.put-4.ensures c.state_word.ensures)) c.put_where.ensures) c.put_where-2.ensures)
    c.put-5.ensures
