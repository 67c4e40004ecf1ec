use Rattle.std.proofs.Common.{◌∙◌}
use Rattle.std.specs.Ordering.{int_eq}
use Rattle.indexmap.specs.IndexMap.{get}
use Rattle.trace_ops.proofs.Holding.{none_idle}
use Rattle.trace_ops.proofs.active.idle_of.Goals as goal

pub returns-then-holds_none : goal.returns-then-holds_none
returns-then-holds_none c = c.new.ensures.items ∙ none_idle c.args.active.now c.args.calls.now (get int_eq c.args.held.now) (c.holds_none.ensures c.if-holds_none.true) c.requires
