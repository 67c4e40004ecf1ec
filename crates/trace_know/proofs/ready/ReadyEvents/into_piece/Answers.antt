use Rattle.std.proofs.Common.{ap, ◌∙◌}
use Rattle.trace_know.specs.Ready.{events_among}
use Rattle.trace_know.specs.Runs.{conflicts_among}
use Rattle.trace_know.proofs.Counts.{conflicts-events}
use Rattle.trace_know.proofs.ready.ReadyEvents.into_piece.Goals as goal

pub run_of_events-whole-requires-clause-conflicts : goal.run_of_events-whole-requires-clause-conflicts
run_of_events-whole-requires-clause-conflicts c = ap conflicts_among c.self.invariant.whole ∙ conflicts-events (events_among c.self.inside.cells.items)
