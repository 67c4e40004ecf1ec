use Rattle.trace_report.proofs.Printing.{then}
use Rattle.trace_report.proofs.json.objects.put_called.Goals as goal

pub returns : goal.returns
returns g c = then (then (then c.put.ensures c.put_function.ensures) c.put-2.ensures) c.put_root.ensures
