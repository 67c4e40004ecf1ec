use Rattle.trace_report.proofs.Printing.{then, reads}
use Rattle.trace_report.proofs.waits.put_rank.Goals as goal

pub returns : goal.returns
returns g c = then (reads c.put.ensures c.before_part.ensures) c.put_number.ensures
