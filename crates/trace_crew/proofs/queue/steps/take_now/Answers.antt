use Rattle.trace_crew.proofs.Keeping.{can_take}
use Rattle.trace_crew.proofs.queue.steps.take_now.Goals as goal

pub try_recv_as-requires-clause-rule : goal.try_recv_as-requires-clause-rule
try_recv_as-requires-clause-rule g c = can_take _ _ _ c.requires.owner.1
