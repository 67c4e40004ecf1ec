use Rattle.trace_pair.proofs.Known.{known_message}
use Rattle.trace_pair.proofs.Partners.{partner_is, partner_absent}
use Rattle.trace_pair.proofs.matched.Matched.partner_of.Goals as goal

pub returns-in-Some : goal.returns-in-Some
returns-in-Some c = λ after ms qs held i. partner_is after ms qs _ _ _ _ held.sets c.args.m.now c.in-Some.q (c.in-Some.ensures.some (known_message _ ms qs _ _ _ _ held.sets c.args.m.now i))

pub returns-in-None : goal.returns-in-None
returns-in-None c = λ after ms qs held i. partner_absent after ms qs _ _ _ _ held.sets c.args.m.now i c.in-None.ensures.none
