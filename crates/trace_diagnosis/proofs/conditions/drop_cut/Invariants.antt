use Rattle.trace_diagnosis.specs.Askers.{AreDropped}
use Rattle.trace_diagnosis.specs.Conditions.{has_gone_on}
use Rattle.trace_diagnosis.proofs.conditions.drop_cut.Given as goal

abbrev pub invariant-loop-rank : goal.invariant-loop-rank
invariant-loop-rank l = AreDropped (has_gone_on l.know l.cut l.stuck) l.rank l.fn.of_ranks l.of_ranks
