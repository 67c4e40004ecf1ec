use Rattle.std.proofs.Common.{length, sym, ap, ◌∙◌, arith}
use Rattle.std.specs.FinMap.{entries}
use Rattle.trace_know.specs.Listing.{conflicts_in}
use Rattle.trace_know.proofs.Listing.{len-listed, entries-listed}
use Rattle.trace_know.proofs.knowledge.Knowledge.conflicts.Goals as goal

pub count_conflicts-requires-clause-few : goal.count_conflicts-requires-clause-few
count_conflicts-requires-clause-few c =
    let few = c.self.invariant.few in
    let fits = c.self.invariant.fits in
    let n = len-listed c.self.inside.runs.items c.self.invariant.above in
    (omega arith)

pub returns : goal.returns
returns c = c.count_conflicts.ensures
    ∙ ap (λ es. length (conflicts_in es)) (sym (entries-listed c.self.inside.runs.items c.self.invariant.above) ∙ ap entries c.self.view_is)
