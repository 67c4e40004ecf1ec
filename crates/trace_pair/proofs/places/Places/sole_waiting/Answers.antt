use Rattle.std.proofs.Common.{true, false}
use Rattle.trace_pair.proofs.Waited.{followed_first, none_first, plain_first}
use Rattle.trace_pair.proofs.places.Places.sole_waiting.Goals as goal

pub returns-in_default-clause-sole : goal.returns-in_default-clause-sole
returns-in_default-clause-sole c = none_first c.args.plain c.args.messages.now c.args.takers.now _ c.in_default.ensures.first

pub returns-then-plain-clause-sole : goal.returns-then-plain-clause-sole
returns-then-plain-clause-sole c = plain_first c.args.plain c.args.messages.now c.args.takers.now _ c.in-Some.place c.if-plain.true c.in-Some.ensures.first

pub returns-then-has_sibling-clause-sole : goal.returns-then-has_sibling-clause-sole
returns-then-has_sibling-clause-sole c =
    followed_first c.args.plain c.args.messages.now c.args.takers.now _ c.first_waiting.new.self c.in-Some.place c.call_at-call.result c.if-plain.false c.in-Some.ensures.first c.first_waiting.ensures.left c.call_at-call.ensures
    c.has_sibling.result true c.has_sibling.ensures c.if-has_sibling.true

pub returns-clause-sole : goal.returns-clause-sole
returns-clause-sole c =
    followed_first c.args.plain c.args.messages.now c.args.takers.now _ c.first_waiting.new.self c.in-Some.place c.call_at-call.result c.if-plain.false c.in-Some.ensures.first c.first_waiting.ensures.left c.call_at-call.ensures
    c.has_sibling.result false c.has_sibling.ensures c.if-has_sibling.false
