use Rattle.trace_pair.proofs.Slotted.{put_rises, put_value}
use Rattle.trace_pair.proofs.slots.put_slot.Goals as goal

pub returns-clause-rises : goal.returns-clause-rises
returns-clause-rises g c = put_rises c.args.row.now.items _ _ c.args.place c.args.slot c.make_room.ensures c.in_ok-insert.ensures.items c.requires.gap c.requires.rises

pub returns-clause-put : goal.returns-clause-put
returns-clause-put g c = put_value c.args.row.now.items _ _ c.args.place c.args.slot c.make_room.ensures c.in_ok-insert.ensures.items c.requires.gap
