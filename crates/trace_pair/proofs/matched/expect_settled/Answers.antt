use Rattle.trace_pair.specs.Pairing.{Paired}
use Rattle.trace_pair.proofs.Holding.{couples_kept}
use Rattle.trace_pair.proofs.matched.expect_settled.Goals as goal

pub returns-in_err-expect_receive : goal.returns-in_err-expect_receive
returns-in_err-expect_receive c = λ after ms qs held. record { sets = couples_kept (Paired after ms qs) ms qs _ _ _ _ _ held.sets c.expect_receive.ensures; sent_alone = held.sent_alone; posted_alone = held.posted_alone }

pub returns : goal.returns
returns c = λ after ms qs held. record { sets = couples_kept (Paired after ms qs) ms qs _ _ _ _ _ held.sets c.expect_receive.ensures; sent_alone = held.sent_alone; posted_alone = held.posted_alone }
