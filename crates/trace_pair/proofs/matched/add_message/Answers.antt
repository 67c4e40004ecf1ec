use Rattle.trace_pair.specs.After.{comes_after}
use Rattle.trace_pair.specs.Pairing.{Paired}
use Rattle.trace_pair.proofs.Holding.{couples_kept}
use Rattle.trace_pair.proofs.matched.add_message.Goals as goal

pub returns : goal.returns
returns c = λ ms more qs adds held. c.in_ok-push_message.ensures ms more qs adds
    (record { sets = couples_kept (Paired (comes_after c.args.reaches.now) ms qs) ms qs _ _ _ _ _ held.sets c.expect_message.ensures; sent_alone = held.sent_alone; posted_alone = held.posted_alone })
