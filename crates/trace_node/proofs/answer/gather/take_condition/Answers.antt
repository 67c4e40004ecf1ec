use Rattle.std.proofs.Common.{arith}
use Rattle.trace_node.proofs.Waits.{wait_set, wait_past}
use Rattle.trace_node.proofs.answer.gather.take_condition.Goals as goal

pub returns-then-at-conditions-clause-later : goal.returns-then-at-conditions-clause-later
returns-then-at-conditions-clause-later c = λ r lt. wait_set c.args.conditions.now c.args.rank r c.take.new.self lt

pub returns-else-at-conditions-clause-taken : goal.returns-else-at-conditions-clause-taken
returns-else-at-conditions-clause-taken c = wait_past c.args.conditions.now c.args.rank (omega (arith, c.if-at-conditions.false))
