use Rattle.trace_crew.proofs.Keeping.{begins}
use Rattle.trace_crew.proofs.queue.steps.open.Goals as goal

pub bounded_with-requires-clause-rule : goal.bounded_with-requires-clause-rule
bounded_with-requires-clause-rule c = begins
