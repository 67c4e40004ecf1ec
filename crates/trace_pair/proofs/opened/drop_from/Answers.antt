use Rattle.std.specs.Ordering.{is_eq}
use Rattle.trace_pair.specs.Groups.{has}
use Rattle.trace_pair.specs.KeyOrders.{receive_cmp, receive_key_cmp, receive_key_of}
use Rattle.trace_pair.proofs.Members.{emptied}
use Rattle.trace_pair.proofs.opened.drop_from.Goals as goal

pub returns-clause-dropped : goal.returns-clause-dropped
returns-clause-dropped c = λ k d.
    emptied (is_eq (receive_key_cmp (receive_key_of c.args.q.now) k)) (is_eq (receive_cmp c.args.q.now d)) (has receive_key_cmp receive_cmp c.args.lanes.now k d) (has receive_key_cmp receive_cmp c.take_from.new.lanes k d) (has receive_key_cmp receive_cmp c.forget.new.lanes k d)
    (c.forget.ensures.gone k d) (c.take_from.ensures.dropped k d) (λ e. c.take_from.ensures.none c.if-not-take_from.false k e d)
