use Rattle.trace_crew.proofs.Keeping.{can_join}
use Rattle.trace_crew.proofs.queue.steps.join.Goals as goal

pub absorb-requires-clause-rule : goal.absorb-requires-clause-rule
absorb-requires-clause-rule c = can_join _ _ _ _ _ _ _ c.requires.owner.1 c.requires.poster.1.1
