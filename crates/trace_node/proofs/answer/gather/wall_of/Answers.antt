use Rattle.std.proofs.Common.{◌∙◌, ap}
use Rattle.trace_node.specs.Answer.{entry_of}
use Rattle.trace_node.proofs.Walls.{saturated}
use Rattle.trace_node.proofs.answer.gather.wall_of.Goals as goal

pub returns : goal.returns
returns c = c.entry_of.ensures ∙ ap entry_of (c.event_at.ensures ∙ saturated c.args.know.now c.known.ensures c.args.rank c.args.call c.saturating_mul.result c.saturating_mul.ensures)
