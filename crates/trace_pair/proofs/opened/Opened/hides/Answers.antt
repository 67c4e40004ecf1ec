use Rattle.trace_pair.specs.After.{comes_after}
use Rattle.trace_pair.proofs.Hiding.{none_of_all, some_of_all}
use Rattle.trace_pair.proofs.opened.Opened.hides.Goals as goal

pub returns-clause-yes : goal.returns-clause-yes
returns-clause-yes c = λ h. some_of_all (comes_after c.args.reaches.now) c.args.self.now c.args.m.now (c.hides_within.ensures.yes h)

pub returns-clause-no : goal.returns-clause-no
returns-clause-no c = λ h. none_of_all (comes_after c.args.reaches.now) c.args.self.now c.args.m.now (c.hides_within.ensures.no h)
