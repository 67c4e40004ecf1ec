use Rattle.std.proofs.Common.{inl, refl, rules}
use Rattle.trace_pair.proofs.Known.{known_receive}
use Rattle.trace_pair.proofs.Pops.{pop_receive_open, pop_receive_coupled, pop_receive_free}
use Rattle.trace_pair.proofs.Singles.{fewer_posted_alone}
use Rattle.trace_pair.proofs.matched.pop_receive.Goals as goal

pub returns-then-is_open : goal.returns-then-is_open
returns-then-is_open c = λ after ms qs more adds held. record {
  sets = pop_receive_open after ms qs more c.args.q.now adds _ _ _ _ held.sets (search rules) _ c.remove.ensures;
  sent_alone = held.sent_alone;
  posted_alone = fewer_posted_alone qs more adds.old held.posted_alone;
}

pub returns-in_ok-insert-in-Some : goal.returns-in_ok-insert-in-Some
returns-in_ok-insert-in-Some c = λ after ms qs more adds held.
    let i = c.in-Some.ensures.some (known_receive _ ms more _ _ _ _ held.sets c.args.q.now (adds.new c.args.q.now (inl refl))) in
    record {
      sets = pop_receive_coupled after ms qs more c.args.q.now adds _ _ _ _ held.sets c.in-Some.m i _ _ c.in_ok-insert-in-Some.ensures (c.remove-in-Some.ensures i);
      sent_alone = held.sent_alone;
      posted_alone = fewer_posted_alone qs more adds.old held.posted_alone;
    }

pub returns-in-None : goal.returns-in-None
returns-in-None c = λ after ms qs more adds held. record {
  sets = pop_receive_free after ms qs more c.args.q.now adds _ _ _ _ held.sets (search rules) c.in-None.ensures.none _ c.remove-in-None.ensures;
  sent_alone = held.sent_alone;
  posted_alone = fewer_posted_alone qs more adds.old held.posted_alone;
}
