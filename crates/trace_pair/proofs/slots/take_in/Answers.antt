use Rattle.std.proofs.Common.{sym}
use Rattle.trace_pair.proofs.Slotted.{gap_none, none_left}
use Rattle.trace_pair.proofs.slots.take_in.Goals as goal

pub returns-in-Err-clause-taken : goal.returns-in-Err-clause-taken
returns-in-Err-clause-taken g c = sym (gap_none c.args.row.now.items c.deref.result.now c.deref.ensures.value _ c.args.at c.in-Err.ensures.missed)

pub returns-in-Err-clause-left : goal.returns-in-Err-clause-left
returns-in-Err-clause-left g c = none_left c.args.row.now.items c.args.at (gap_none c.args.row.now.items c.deref.result.now c.deref.ensures.value _ c.args.at c.in-Err.ensures.missed)
