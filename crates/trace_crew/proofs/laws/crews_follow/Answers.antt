use Rattle.trace_crew.proofs.Scheduling.{crew_follows}
use Rattle.trace_crew.proofs.laws.crews_follow.Goals as goal

pub returns : goal.returns
returns c = crew_follows
