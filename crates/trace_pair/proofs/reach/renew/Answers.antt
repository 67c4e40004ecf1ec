use Rattle.trace_pair.proofs.Reached.{reach_set}
use Rattle.trace_pair.proofs.reach.renew.Goals as goal

pub returns-clause-ok : goal.returns-clause-ok
returns-clause-ok c = λ ops h. reach_set ops c.args.table.now c.args.rank c.args.own.now c.in_ok-reach.reach h c.in_ok-reach.ensures
