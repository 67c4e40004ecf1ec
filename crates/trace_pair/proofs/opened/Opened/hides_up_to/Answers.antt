use Rattle.std.proofs.Common.{rules}
use Rattle.trace_pair.specs.After.{comes_after}
use Rattle.trace_pair.proofs.Hiding.{none_elsewhere, none_up_to, some_up_to}
use Rattle.trace_pair.proofs.opened.Opened.hides_up_to.Goals as goal

pub returns-then-m-q-clause-yes : goal.returns-then-m-q-clause-yes
returns-then-m-q-clause-yes c = λ h. some_up_to (comes_after c.args.reaches.now) c.args.self.now c.args.m.now c.args.q.now c.if-m-q.true (c.hides_within.ensures.yes h)

pub returns-then-m-q-clause-no : goal.returns-then-m-q-clause-no
returns-then-m-q-clause-no c = λ h. none_up_to (comes_after c.args.reaches.now) c.args.self.now c.args.m.now c.args.q.now (c.hides_within.ensures.no h)

pub returns-else-m-q-clause-no : goal.returns-else-m-q-clause-no
returns-else-m-q-clause-no c = λ h. none_elsewhere (comes_after c.args.reaches.now) c.args.self.now c.args.m.now c.args.q.now (search rules)
