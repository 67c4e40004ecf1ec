use Rattle.std.proofs.Common.{ap, ◌∙◌}
use Rattle.trace_know.specs.Ready.{events_among}
use Rattle.trace_know.specs.Runs.{conflicts_among}
use Rattle.trace_know.proofs.Counts.{conflicts-events, same_events}
use Rattle.trace_know.proofs.ready.ReadyEvents.into_events.Goals as goal

pub run_of_events-run-requires-clause-conflicts : goal.run_of_events-run-requires-clause-conflicts
run_of_events-run-requires-clause-conflicts c = ap conflicts_among c.self.invariant.whole ∙ conflicts-events (events_among c.self.inside.cells.items)

pub give_back-requires-clause-sound : goal.give_back-requires-clause-sound
give_back-requires-clause-sound c =
    ap conflicts_among (c.run_of_events-run.ensures.cells ∙ c.self.invariant.whole) ∙ conflicts-events (events_among c.self.inside.cells.items)

pub returns : goal.returns
returns c =
    let held = events_among c.self.inside.cells.items in
    same_events c.give_back.new.events.items held (c.give_back.ensures ∙ c.run_of_events-run.ensures.cells ∙ c.self.invariant.whole) ∙ c.self.view_is
