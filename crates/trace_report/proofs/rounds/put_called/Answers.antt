use Rattle.trace_report.proofs.Printing.{then}
use Rattle.trace_report.proofs.rounds.put_called.Goals as goal

pub returns : goal.returns
returns g c = then c.put_function.ensures c.put_root.ensures
