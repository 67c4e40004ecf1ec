use Rattle.std.proofs.Common.{ap, sym, ◌∙◌}
use Rattle.trace_know.specs.Runs.{conflicts_among}
use Rattle.trace_know.proofs.Counts.{conflicts-events}
use Rattle.trace_know.proofs.run.fill.Goals as goal

pub returns-clause-counted : goal.returns-clause-counted
returns-clause-counted c = record {
  sound = c.move_in-run.ensures.sound;
  conflicts = sym (ap conflicts_among c.move_in-run.ensures.cells ∙ conflicts-events c.args.events.now.items);
}
