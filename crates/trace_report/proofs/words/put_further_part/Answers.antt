use Rattle.trace_report.proofs.Printing.{then}
use Rattle.trace_report.proofs.words.put_further_part.Goals as goal

pub returns : goal.returns
returns g c = then c.put.ensures c.put_number.ensures
