use Rattle.trace_pair.proofs.Waited.{if_ok}
use Rattle.trace_pair.proofs.takings.lanes_or_new.Goals as goal

pub returns-in-None : goal.returns-in-None
returns-in-None c = if_ok c.lanes_of.result (λ lanes h takers _. h takers) c.lanes_of.ensures
