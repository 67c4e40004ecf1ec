use Rattle.trace_pair.proofs.Taking.{last_may, none_may}
use Rattle.trace_pair.proofs.ends.Ends.may_take.Goals as goal

pub returns-in-None : goal.returns-in-None
returns-in-None c = λ xs last. none_may c.args.reaches.now xs c.args.m.now (c.in-None.ensures xs last)

pub returns-in-Some : goal.returns-in-Some
returns-in-Some c = λ xs last. last_may c.args.reaches.now xs c.args.m.now c.in-Some.end (c.in-Some.ensures xs last) c.is_after.result c.is_after.ensures
