use Rattle.trace_diagnosis.proofs.unmatched.AllReceives.push_idle.Goals as goal

pub returns : goal.returns
returns c = c.in_ok-push_receives.ensures.sort
