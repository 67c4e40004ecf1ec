use Rattle.trace_report.proofs.Printing.{then, reads}
use Rattle.trace_report.proofs.json.objects.PairValue.put.Goals as goal

pub returns : goal.returns
returns g c = then (then (then (then (then (then c.put.ensures (c.put-2.ensures)) (c.put-3.ensures)) (c.put-4.ensures)) (c.put-5.ensures)) (reads c.put-6.ensures c.bool_text.ensures)) (c.put-7.ensures)
