use Rattle.std.proofs.Common.{sym, ap, ◌∙◌}
use Rattle.std.specs.List.{slice_get}
use Rattle.std.specs.FinMap.{entries}
use Rattle.trace_know.specs.Listing.{conflicts_in}
use Rattle.trace_know.proofs.Listing.{entries-listed}
use Rattle.trace_know.proofs.knowledge.Knowledge.conflict.Goals as goal

pub returns : goal.returns
returns c = c.conflict_in.ensures
    ∙ ap (λ es. slice_get (conflicts_in es) c.args.i) (sym (entries-listed c.self.inside.runs.items c.self.invariant.above) ∙ ap entries c.self.view_is)
