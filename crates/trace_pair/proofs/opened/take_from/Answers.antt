use Rattle.trace_pair.specs.KeyOrders.{receive_key_of}
use Rattle.trace_pair.proofs.LaneKeys.{none_less, write_less}
use Rattle.trace_pair.proofs.opened.take_from.Goals as goal

pub returns-in-Some-clause-dropped : goal.returns-in-Some-clause-dropped
returns-in-Some-clause-dropped c =
    write_less c.args.lanes.now (c.get_mut.follows.lender c.remove.new.self) (receive_key_of c.args.q.now) c.args.q.now c.in-Some.lane.now c.remove.new.self
    c.in-Some.ensures.value (c.get_mut.follows.holds c.remove.new.self) c.remove.ensures

pub returns-in-None-clause-dropped : goal.returns-in-None-clause-dropped
returns-in-None-clause-dropped c =
    none_less c.args.lanes.now c.get_mut.follows.lender-at-none (receive_key_of c.args.q.now) c.args.q.now c.in-None.ensures.value c.get_mut.follows.holds-at-none
