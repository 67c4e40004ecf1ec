use Rattle.trace_report.proofs.Printing.{then, reads}
use Rattle.trace_report.proofs.seconds.put_seconds.Goals as goal

pub returns : goal.returns
returns g c = then (then c.put_number.ensures c.put.ensures) (reads c.put-2.ensures c.nine_digits.ensures)
