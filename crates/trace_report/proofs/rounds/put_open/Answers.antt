use Rattle.trace_report.proofs.Printing.{then}
use Rattle.trace_report.proofs.rounds.put_open.Goals as goal

pub returns : goal.returns
returns g c = then (then (then (then c.put_called.ensures c.put.ensures) c.put_number.ensures) c.put-2.ensures) c.put_number-2.ensures
