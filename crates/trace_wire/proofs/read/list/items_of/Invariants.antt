use Rattle.std.proofs.Common.{◌≡◌, ◌-◌}
use Rattle.trace_wire.specs.Forms.{items_at}
use Rattle.trace_wire.proofs.ItemLoop.{with_front}
use Rattle.trace_wire.proofs.read.list.items_of.Given as goal

abbrev pub invariant-loop : goal.invariant-loop
invariant-loop g l = with_front l.items.items (items_at g.T.FrameItem.form (l.count - l.counter) l.rest) ≡ items_at g.T.FrameItem.form l.count l.bytes
