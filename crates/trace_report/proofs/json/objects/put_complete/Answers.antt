use Rattle.trace_report.proofs.Printing.{then}
use Rattle.trace_report.proofs.json.objects.put_complete.Goals as goal

pub returns : goal.returns
returns g c = then c.put.ensures (c.put_called.ensures)
