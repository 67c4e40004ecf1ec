use Rattle.std.proofs.Common.{◌≡◌, ℕ, List, sym, ap, subst, ◌∙◌}
use Rattle.std.specs.Prelude.{IfOk}
use Rattle.std.specs.FinMap.{entries}
use Rattle.trace_know.specs.Listing.{conflicts_in}
use Rattle.trace_know.proofs.Listing.{entries-listed}
use Rattle.trace_know.proofs.knowledge.Knowledge.conflict_places.Goals as goal

pub returns : goal.returns
returns c = subst (λ (qs : List (ℕ × ℕ)). IfOk c.conflict_places_in.result (λ places. places.items ≡ qs))
    (ap conflicts_in (sym (entries-listed c.self.inside.runs.items c.self.invariant.above) ∙ ap entries c.self.view_is)) c.conflict_places_in.ensures
