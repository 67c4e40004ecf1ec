use Rattle.std.proofs.Common.{sym}
use Rattle.trace_pair.proofs.Slotted.{value_at_gap}
use Rattle.trace_pair.proofs.slots.get_in.Goals as goal

pub returns-in-Err : goal.returns-in-Err
returns-in-Err g c = sym (value_at_gap c.args.row.now _ c.args.at c.in-Err.ensures.missed)
