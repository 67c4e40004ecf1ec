use Rattle.std.proofs.Common.{refl}
use Rattle.trace_crew.proofs.Keeping.{can_post}
use Rattle.trace_crew.proofs.queue.steps.post.Goals as goal

pub send_as-requires-clause-rule : goal.send_as-requires-clause-rule
send_as-requires-clause-rule g c = can_post _ _ _ _ _ _ c.requires.poster.1 refl
