use Rattle.trace_pair.proofs.Slotted.{gap_none}
use Rattle.trace_pair.proofs.slots.put_in.Goals as goal

pub returns-in_ok-put_slot-in-Err-clause-free : goal.returns-in_ok-put_slot-in-Err-clause-free
returns-in_ok-put_slot-in-Err-clause-free g c = λ t. gap_none c.args.row.now.items c.deref.result.now c.deref.ensures.value _ c.args.at c.in-Err.ensures.missed
