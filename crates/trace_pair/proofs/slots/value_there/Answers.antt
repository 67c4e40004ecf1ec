use Rattle.std.proofs.Common.{sym}
use Rattle.trace_pair.proofs.Slotted.{value_at_slot}
use Rattle.trace_pair.proofs.slots.value_there.Goals as goal

pub returns : goal.returns
returns g c = λ call r at. sym (value_at_slot c.args.row.now c.args.place call c.index-row-place.result r at)
