use Rattle.std.proofs.Common.{Err, Ok, OnErr, Result}
use Rattle.trace_pair.proofs.Orders.{receive_keys_total}
use Rattle.trace_pair.proofs.PutAt.{write_more, write_same}
use Rattle.trace_pair.specs.KeyOrders.{receive_cmp, receive_key_of}
use Rattle.trace_pair.proofs.opened.add.Goals as goal

on_err : {X E P : Type 0} (r : Result X E) → P → OnErr r P
on_err (Ok _) p = tt
on_err (Err _) p = p

pub returns-in-Some-clause-ok : goal.returns-in-Some-clause-ok
returns-in-Some-clause-ok c = write_more receive_cmp receive_keys_total c.args.lanes.now (c.get_mut.follows.lender c.insert.new.self) (receive_key_of c.args.q) c.in-Some.lane.now c.insert.new.self
    c.in-Some.ensures.value (c.get_mut.follows.holds c.insert.new.self) c.args.q c.in_ok-insert.ensures.ok

pub returns-in_err-insert-clause-err : goal.returns-in_err-insert-clause-err
returns-in_err-insert-clause-err c = on_err c.from_residual.result
    (write_same receive_cmp receive_keys_total c.args.lanes.now (c.get_mut.follows.lender c.insert.new.self) (receive_key_of c.args.q) c.in-Some.lane.now c.insert.new.self
    c.in-Some.ensures.value (c.get_mut.follows.holds c.insert.new.self) c.in_err-insert.ensures.err)
