use Rattle.std.proofs.Common.{ap}
use Rattle.trace_report.specs.Words.{begun_small}
use Rattle.trace_report.proofs.Printing.{reads}
use Rattle.trace_report.proofs.words.put_function.Goals as goal

pub returns : goal.returns
returns g c = reads c.put_small.ensures (ap begun_small c.short_name.ensures)
