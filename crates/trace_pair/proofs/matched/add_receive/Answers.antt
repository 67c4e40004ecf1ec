use Rattle.trace_pair.specs.After.{comes_after}
use Rattle.trace_pair.proofs.matched.add_receive.Goals as goal

pub returns : goal.returns
returns c = λ ms qs more adds held. c.in_ok-push_receive.ensures ms qs more adds (c.expect_settled.ensures (comes_after c.args.reaches.now) ms qs held)
