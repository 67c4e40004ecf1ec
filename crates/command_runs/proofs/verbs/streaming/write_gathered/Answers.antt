use Rattle.command_runs.proofs.Streaming.{has_failed}
use Rattle.command_runs.proofs.verbs.streaming.write_gathered.Goals as goal

pub returns-in-Ok-clause-written : goal.returns-in-Ok-clause-written
returns-in-Ok-clause-written g c = ((_, c.in-Ok.ensures.ok), c.in-Ok.ensures.failures.1)

pub returns-in-Err-clause-written : goal.returns-in-Err-clause-written
returns-in-Err-clause-written g c =
    let front = c.in-Err.ensures.err in
    ((_, front.2), λ is. has_failed _ _ c.in-Err.ensures.failures.1)
