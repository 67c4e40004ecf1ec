use Rattle.trace_pair.proofs.Orders.{receive_keys_total}
use Rattle.trace_pair.proofs.PutAt.{put_first}
use Rattle.trace_pair.specs.KeyOrders.{receive_cmp, receive_key_of}
use Rattle.trace_pair.proofs.opened.put_first.Goals as goal

pub returns-clause-ok : goal.returns-clause-ok
returns-clause-ok c = put_first receive_cmp receive_keys_total c.args.lanes.now c.insert.new.self (receive_key_of c.args.q.now) c.args.lane c.in_ok-insert.ensures.updates.0 c.args.q.now c.requires.free c.requires.alone
