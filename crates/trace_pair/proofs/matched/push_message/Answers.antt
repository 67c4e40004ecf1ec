use Rattle.std.proofs.Common.{rules, ap, sym, ◌∙◌}
use Rattle.std.specs.Prelude.{not}
use Rattle.trace_pair.specs.After.{comes_after}
use Rattle.trace_pair.proofs.Pushes.{new_message, push_message_taken, push_message_waits, push_message_void}
use Rattle.trace_pair.proofs.Singles.{sent_apart, more_sent_alone}
use Rattle.trace_pair.proofs.matched.push_message.Goals as goal

pub returns-then-is_void : goal.returns-then-is_void
returns-then-is_void c = λ ms more qs adds held.
    let alone = more_sent_alone ms more c.args.m adds held.sent_alone in
    record {
      sets = push_message_void (comes_after c.args.reaches.now) ms more qs c.args.m adds (sent_apart more alone) _ _ _ _ held.sets (λ l. let e = c.is_void.ensures in let f = c.if-is_void.true in let n = ap not (sym e ∙ f) in cc);
      sent_alone = alone;
      posted_alone = held.posted_alone;
    }

pub returns-in_ok-insert-in-Some : goal.returns-in_ok-insert-in-Some
returns-in_ok-insert-in-Some c = λ ms more qs adds held.
    let after = comes_after c.args.reaches.now in
    let alone = more_sent_alone ms more c.args.m adds held.sent_alone in
    let t = c.in-Some.ensures.some ms qs held in
    record {
      sets = push_message_taken after ms more qs c.args.m adds (sent_apart more alone) _ _ _ _ held.sets c.in-Some.q t.0 t.1 _ _ c.remove.ensures
          (c.in_ok-insert-in-Some.ensures (new_message after ms more qs c.args.m adds (sent_apart more alone) _ _ _ _ held.sets c.in-Some.q t.0 t.1));
      sent_alone = alone;
      posted_alone = held.posted_alone;
    }

pub returns-in_ok-insert-in-None : goal.returns-in_ok-insert-in-None
returns-in_ok-insert-in-None c = λ ms more qs adds held.
    let alone = more_sent_alone ms more c.args.m adds held.sent_alone in
    record {
      sets = push_message_waits (comes_after c.args.reaches.now) ms more qs c.args.m adds (sent_apart more alone) _ _ _ _ held.sets (search rules) (c.in-None.ensures.none ms qs held) _ c.in_ok-insert-in-None.ensures;
      sent_alone = alone;
      posted_alone = held.posted_alone;
    }
