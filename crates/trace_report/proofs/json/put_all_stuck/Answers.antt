use Rattle.trace_node.specs.Stopped.{stopped}
use Rattle.trace_report.specs.Json.{stuck_object}
use Rattle.trace_report.proofs.Printing.{reads}
use Rattle.trace_report.proofs.Arrays.{joined_map}
use Rattle.trace_report.proofs.json.put_all_stuck.Goals as goal

pub returns : goal.returns
returns g c = reads c.put_all.ensures (joined_map stopped stuck_object c.args.ranks.now)
