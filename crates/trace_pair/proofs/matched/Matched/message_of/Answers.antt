use Rattle.trace_pair.specs.Indexed.{couple_of}
use Rattle.trace_pair.proofs.Known.{known_receive}
use Rattle.trace_pair.proofs.matched.Matched.message_of.Goals as goal

pub returns-in-Some-clause-some : goal.returns-in-Some-clause-some
returns-in-Some-clause-some c = λ after ms qs held i.
    let w = held.sets.coupled (couple_of c.in-Some.m c.args.q.now) (c.in-Some.ensures.some (known_receive _ ms qs _ _ _ _ held.sets c.args.q.now i)) in
    (w.0, w.2)

pub returns-in-None-clause-none : goal.returns-in-None-clause-none
returns-in-None-clause-none c = λ after ms qs held i m j p. c.in-None.ensures.none m (held.sets.coupled_all m c.args.q.now j i p)
