use Rattle.trace_pair.specs.Pairing.{Paired}
use Rattle.trace_pair.proofs.Holding.{couples_kept}
use Rattle.trace_pair.proofs.matched.Matched.reserve.Goals as goal

pub returns-in_err-reserve_messages : goal.returns-in_err-reserve_messages
returns-in_err-reserve_messages c = λ after ms qs held. record { sets = couples_kept (Paired after ms qs) ms qs _ _ _ _ _ held.sets c.reserve_messages.ensures; sent_alone = held.sent_alone; posted_alone = held.posted_alone }

pub returns-in_err-reserve_receives : goal.returns-in_err-reserve_receives
returns-in_err-reserve_receives c = λ after ms qs held. record { sets = couples_kept (Paired after ms qs) ms qs _ _ _ _ _ (couples_kept (Paired after ms qs) ms qs _ _ _ _ _ held.sets c.reserve_messages.ensures) c.reserve_receives.ensures; sent_alone = held.sent_alone; posted_alone = held.posted_alone }

pub returns : goal.returns
returns c = λ after ms qs held. record { sets = couples_kept (Paired after ms qs) ms qs _ _ _ _ _ (couples_kept (Paired after ms qs) ms qs _ _ _ _ _ held.sets c.reserve_messages.ensures) c.reserve_receives.ensures; sent_alone = held.sent_alone; posted_alone = held.posted_alone }
