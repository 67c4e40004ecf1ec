use Rattle.trace_pair.proofs.Afterwards.{stays_after, was_after}
use Rattle.trace_pair.proofs.laws.what_comes_after_stays.Goals as goal

pub returns-clause-stays : goal.returns-clause-stays
returns-clause-stays c = stays_after

pub returns-clause-was : goal.returns-clause-was
returns-clause-was c = was_after
