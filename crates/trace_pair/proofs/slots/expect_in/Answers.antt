use Rattle.std.proofs.Common.{refl, None}
use Rattle.trace_pair.proofs.Slotted.{gap_none, value_empty}
use Rattle.trace_pair.proofs.slots.expect_in.Goals as goal

pub returns-in_ok-put_slot-in-Err-clause-same : goal.returns-in_ok-put_slot-in-Err-clause-same
returns-in_ok-put_slot-in-Err-clause-same g c =
    value_empty c.args.row.now.items c.put_slot.new.row.items (record { at = c.args.at; value = None }) refl
    (gap_none c.args.row.now.items c.deref.result.now c.deref.ensures.value _ c.args.at c.in-Err.ensures.missed) c.in_ok-put_slot-in-Err.ensures.put
