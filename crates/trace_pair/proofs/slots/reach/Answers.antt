use Rattle.std.proofs.Common.{ap, ◌∙◌}
use Rattle.trace_pair.specs.Slots.{slots_at}
use Rattle.trace_pair.proofs.Slotted.{slots_more}
use Rattle.trace_pair.proofs.slots.reach.Goals as goal

pub loop-alloc-preserved : goal.loop-alloc-preserved
loop-alloc-preserved g c = λ r. ap (λ l. slots_at l r) c.in_ok-push.ensures.items ∙ slots_more c.loop-alloc.rows.items c.new.result c.new.ensures.items r ∙ c.loop-alloc.invariant r
