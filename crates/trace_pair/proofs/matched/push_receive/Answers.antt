use Rattle.std.proofs.Common.{rules}
use Rattle.trace_pair.specs.After.{comes_after}
use Rattle.trace_pair.proofs.Pushes.{new_receive, push_receive_open, push_receive_taken, push_receive_free, push_receive_void}
use Rattle.trace_pair.proofs.Singles.{posted_apart, more_posted_alone}
use Rattle.trace_pair.proofs.matched.push_receive.Goals as goal

pub returns-then-is_open : goal.returns-then-is_open
returns-then-is_open c = λ ms qs more adds held.
    let alone = more_posted_alone qs more c.args.q adds held.posted_alone in
    record {
      sets = push_receive_open (comes_after c.args.reaches.now) ms qs more c.args.q adds (posted_apart more alone) _ _ _ _ held.sets (search rules) _ c.in_ok-insert.ensures;
      sent_alone = held.sent_alone;
      posted_alone = alone;
    }

pub returns-then-not-is_settled : goal.returns-then-not-is_settled
returns-then-not-is_settled c = λ ms qs more adds held.
    let alone = more_posted_alone qs more c.args.q adds held.posted_alone in
    record {
      sets = push_receive_void (comes_after c.args.reaches.now) ms qs more c.args.q adds (posted_apart more alone) _ _ _ _ held.sets (search rules) (search rules);
      sent_alone = held.sent_alone;
      posted_alone = alone;
    }

pub returns-in_ok-insert-in-Some : goal.returns-in_ok-insert-in-Some
returns-in_ok-insert-in-Some c = λ ms qs more adds held.
    let after = comes_after c.args.reaches.now in
    let alone = more_posted_alone qs more c.args.q adds held.posted_alone in
    let t = c.in-Some.ensures.some ms qs more adds held in
    record {
      sets = push_receive_taken after ms qs more c.args.q adds (posted_apart more alone) _ _ _ _ held.sets (search rules) c.in-Some.m t.0 t.1 _ _ c.remove.ensures
          (c.in_ok-insert-in-Some.ensures (new_receive after ms qs more c.args.q adds (posted_apart more alone) _ _ _ _ held.sets (search rules) c.in-Some.m t.0));
      sent_alone = held.sent_alone;
      posted_alone = alone;
    }

pub returns-in_ok-insert-in-None : goal.returns-in_ok-insert-in-None
returns-in_ok-insert-in-None c = λ ms qs more adds held.
    let alone = more_posted_alone qs more c.args.q adds held.posted_alone in
    record {
      sets = push_receive_free (comes_after c.args.reaches.now) ms qs more c.args.q adds (posted_apart more alone) _ _ _ _ held.sets (search rules) (c.in-None.ensures.none ms qs more adds held) _ c.in_ok-insert-in-None.ensures;
      sent_alone = held.sent_alone;
      posted_alone = alone;
    }
