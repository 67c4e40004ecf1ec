use Rattle.trace_report.proofs.Printing.{then}
use Rattle.trace_report.proofs.rounds.put_complete.Goals as goal

pub returns : goal.returns
returns g c = then c.put_called.ensures c.put.ensures
