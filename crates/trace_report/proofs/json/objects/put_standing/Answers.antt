use Rattle.std.proofs.Common.{ap, sym}
use Rattle.trace_report.specs.Json.{standing_fields}
use Rattle.trace_report.proofs.Printing.{reads}
use Rattle.trace_report.proofs.json.objects.put_standing.Goals as goal

pub returns-in-Mismatched : goal.returns-in-Mismatched
returns-in-Mismatched g c = reads c.put.ensures (ap standing_fields (sym c.in-Mismatched.is))
