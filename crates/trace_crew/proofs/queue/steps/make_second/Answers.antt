use Rattle.trace_crew.specs.declared.queue.item.Worker.TheVariants.{Second}
use Rattle.trace_crew.proofs.Keeping.{can_make}
use Rattle.trace_crew.proofs.queue.steps.make_second.Goals as goal

pub another-requires-clause-rule : goal.another-requires-clause-rule
another-requires-clause-rule c = can_make _ _ _ Second c.requires.owner.1 c.requires.owner.2
