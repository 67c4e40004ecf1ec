use Rattle.std.proofs.Common.{sym, ap, ◌∙◌}
use Rattle.std.specs.FinMap.{entries}
use Rattle.trace_know.proofs.Listing.{entries-listed}
use Rattle.trace_know.proofs.knowledge.Knowledge.cells.Goals as goal

pub returns : goal.returns
returns c = c.new.ensures ∙ sym (entries-listed c.self.inside.runs.items c.self.invariant.above) ∙ ap entries c.self.view_is
