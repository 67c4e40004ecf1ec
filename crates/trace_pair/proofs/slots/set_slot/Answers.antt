use Rattle.trace_pair.proofs.Slotted.{rises_set, value_set}
use Rattle.trace_pair.proofs.slots.set_slot.Goals as goal

pub returns-clause-rises : goal.returns-clause-rises
returns-clause-rises g c = rises_set c.args.row.now.items c.args.place c.args.slot c.requires.rises c.requires.there

pub returns-clause-set : goal.returns-clause-set
returns-clause-set g c = value_set c.args.row.now.items c.args.place c.args.slot c.requires.rises c.requires.there
