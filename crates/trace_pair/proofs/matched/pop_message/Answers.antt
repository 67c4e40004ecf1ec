use Rattle.trace_pair.proofs.Known.{known_message}
use Rattle.trace_pair.proofs.Pops.{pop_message_coupled, pop_message_waiting}
use Rattle.trace_pair.proofs.Singles.{fewer_sent_alone}
use Rattle.trace_pair.proofs.matched.pop_message.Goals as goal

pub returns-in_ok-insert-in-Some : goal.returns-in_ok-insert-in-Some
returns-in_ok-insert-in-Some c = λ after ms more qs adds held.
    let i = c.in-Some.ensures.some (known_message _ more qs _ _ _ _ held.sets c.args.m.now adds.new) in
    record {
      sets = pop_message_coupled after ms more qs c.args.m.now adds _ _ _ _ held.sets c.in-Some.q i _ _ c.in_ok-insert-in-Some.ensures (c.remove.ensures i);
      sent_alone = fewer_sent_alone ms more adds.old held.sent_alone;
      posted_alone = held.posted_alone;
    }

pub returns-in-None : goal.returns-in-None
returns-in-None c = λ after ms more qs adds held. record {
  sets = pop_message_waiting after ms more qs c.args.m.now adds _ _ _ _ held.sets c.in-None.ensures.none _ c.remove-in-None.ensures;
  sent_alone = fewer_sent_alone ms more adds.old held.sent_alone;
  posted_alone = held.posted_alone;
}
