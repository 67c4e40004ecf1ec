use Rattle.trace_know.proofs.Growth.{grown, cut, unchanged}
use Rattle.trace_know.proofs.laws.growth_laws.Goals as goal

pub returns-clause-grown : goal.returns-clause-grown
returns-clause-grown c = grown

pub returns-clause-cut : goal.returns-clause-cut
returns-clause-cut c = cut

pub returns-clause-unchanged : goal.returns-clause-unchanged
returns-clause-unchanged c = unchanged
