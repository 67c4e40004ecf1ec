use Rattle.trace_report.proofs.Printing.{then, reads}
use Rattle.trace_report.proofs.waits.put_rank_list.Goals as goal

pub returns : goal.returns
returns g c = then (then c.put.ensures c.put_ranks.ensures) (reads c.put-2.ensures c.close.ensures)
