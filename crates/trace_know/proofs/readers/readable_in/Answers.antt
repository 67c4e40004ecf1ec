use Rattle.std.proofs.Common.{ap, ◌∙◌}
use Rattle.trace_know.specs.declared.run.Run.{Run}
use Rattle.trace_know.specs.Readable.{readable_among}
use Rattle.trace_know.proofs.SoundCells.{front-events, no-events}
use Rattle.trace_know.proofs.readers.readable_in.Goals as goal

pub returns-in-Some : goal.returns-in-Some
returns-in-Some c =
    c.of_run.ensures ∙ ap (λ (r : Run). readable_among r.cells.items) c.get.ensures
    ∙ front-events c.args.runs.now.items c.args.rank c.in-Some.run'.now c.in-Some.ensures

pub returns-in-None : goal.returns-in-None
returns-in-None c = c.nothing.ensures ∙ no-events c.args.runs.now.items c.args.rank c.in-None.ensures
