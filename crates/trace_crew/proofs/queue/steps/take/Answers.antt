use Rattle.trace_crew.proofs.Keeping.{can_take}
use Rattle.trace_crew.proofs.queue.steps.take.Goals as goal

pub recv_as-requires-clause-rule : goal.recv_as-requires-clause-rule
recv_as-requires-clause-rule g c = can_take _ _ _ c.requires.owner.1
