use Rattle.trace_report.proofs.Printing.{then}
use Rattle.trace_report.proofs.rounds.put_some_root.Goals as goal

pub returns : goal.returns
returns g c = then c.put.ensures c.put_number.ensures
