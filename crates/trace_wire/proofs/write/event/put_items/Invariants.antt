use Rattle.std.proofs.Common.{take}
use Rattle.std.specs.List.{flat_map}
use Rattle.trace_wire.specs.Sending.{Sends}
use Rattle.trace_wire.proofs.write.event.put_items.Given as goal

abbrev pub invariant-loop-item : goal.invariant-loop-item
invariant-loop-item g l = Sends (g.S.Sink.page l.fn.out) (g.S.Sink.page l.out) (flat_map g.T.FrameItem.form.spell (take l.item-index l.items))
