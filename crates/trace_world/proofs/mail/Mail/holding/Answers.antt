use Rattle.trace_world.proofs.mail.Mail.holding.Goals as goal

pub invariant_of-result : goal.invariant_of-result
invariant_of-result c = rw c.in-Ok.ensures.ok c.requires
