use Rattle.trace_pair.proofs.Obeyed.{pair_obeys, obeys_paired, only_paired}
use Rattle.trace_pair.proofs.Certain.{the_one_receive, the_one_message}
use Rattle.trace_pair.proofs.laws.pairs_are_the_rules.Goals as goal

pub returns-clause-rules : goal.returns-clause-rules
returns-clause-rules c = pair_obeys

pub returns-clause-all : goal.returns-clause-all
returns-clause-all c = obeys_paired

pub returns-clause-only : goal.returns-clause-only
returns-clause-only c = only_paired

pub returns-clause-one_receive : goal.returns-clause-one_receive
returns-clause-one_receive c = the_one_receive

pub returns-clause-one_message : goal.returns-clause-one_message
returns-clause-one_message c = the_one_message
