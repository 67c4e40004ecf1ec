use Rattle.std.proofs.Common.{sym, ap, subst, ◌∙◌}
use Rattle.std.specs.List.{slice_get}
use Rattle.trace_know.specs.Listing.{conflicts_in}
use Rattle.trace_know.specs.declared.run.Run.{Run}
use Rattle.trace_know.specs.Runs.{IsFilled, cells_of_run}
use Rattle.trace_know.proofs.readers.conflict_in_run.Goals as goal

pub conflict_of-requires : goal.conflict_of-requires
conflict_of-requires c = subst IsFilled (sym c.get.ensures) c.requires

pub returns : goal.returns
returns c = c.conflict_of.ensures ∙ ap (λ (r : Run). slice_get (conflicts_in (cells_of_run r)) c.args.i) c.get.ensures
