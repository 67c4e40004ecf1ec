use Rattle.std.proofs.Common.{ap, decimal}
use Rattle.trace_report.proofs.Printing.{then, reads}
use Rattle.trace_report.proofs.json.put_last.Goals as goal

pub returns : goal.returns
returns g c = then (then c.put.ensures (reads c.put_number.ensures (ap decimal c.foreign.ensures))) c.put-2.ensures
