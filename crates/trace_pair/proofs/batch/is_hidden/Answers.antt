use Rattle.trace_pair.specs.After.{comes_after}
use Rattle.trace_pair.proofs.Hiding.{none_may_hide, some_may_hide}
use Rattle.trace_pair.proofs.batch.is_hidden.Goals as goal

pub returns-clause-yes : goal.returns-clause-yes
returns-clause-yes c = λ h qs last. some_may_hide (comes_after c.args.reaches.now) qs c.args.m.now c.may_take.result (c.may_take.ensures qs last) h

pub returns-clause-no : goal.returns-clause-no
returns-clause-no c = λ h qs last. none_may_hide (comes_after c.args.reaches.now) qs c.args.m.now c.may_take.result (c.may_take.ensures qs last) h
