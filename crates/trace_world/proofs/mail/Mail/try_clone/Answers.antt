use Rattle.trace_world.proofs.mail.Mail.try_clone.Goals as goal

pub invariant_of-result : goal.invariant_of-result
invariant_of-result c = rw c.in_ok-try_clone.ensures c.self.invariant
