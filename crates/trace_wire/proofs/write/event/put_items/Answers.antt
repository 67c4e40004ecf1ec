use Rattle.std.proofs.Common.{sym}
use Rattle.trace_wire.proofs.Sending.{nothing, one_more_item, reads, then}
use Rattle.trace_wire.proofs.write.event.put_items.Goals as goal

pub loop-item-init : goal.loop-item-init
loop-item-init g c = nothing _

pub loop-item-preserved : goal.loop-item-preserved
loop-item-preserved g c =
    reads (then c.loop-item.invariant c.put.ensures) (sym (one_more_item g.T.FrameItem.form.spell c.args.items.now c.loop-item.item-index c.item-item.result c.loop-item-test.true c.item-item.is))
