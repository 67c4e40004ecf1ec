use Rattle.trace_stuck.proofs.Checks.{stuck_closed}
use Rattle.trace_stuck.proofs.laws.stuck_ranks_are_closed.Goals as goal

pub returns : goal.returns
returns c = stuck_closed
