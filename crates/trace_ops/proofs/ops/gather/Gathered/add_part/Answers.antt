use Rattle.std.proofs.Common.{◌≡◌, refl, sym, ◌∙◌, ap, subst, rules, w64, to_z, of_z}
use Rattle.std.specs.Prelude.{ℤ, Option, Some, None, is_some, if◌then◌else◌}
use Rattle.std.specs.List.{cons_option}
use Rattle.std.proofs.lemmas.Int.{to_z-of_z}
use Rattle.trace_ops.specs.declared.entered.Entered.{Entered}
use Rattle.trace_ops.specs.Active.{active_of, active_post}
use Rattle.trace_ops.specs.Called.{plain_called}
use Rattle.trace_ops.specs.Fate.{IsFateOf}
use Rattle.trace_ops.specs.Foreign.{is_foreign}
use Rattle.trace_ops.specs.Held.{plain_init}
use Rattle.trace_ops.specs.Message.{message_of, sends_of}
use Rattle.trace_ops.specs.Receive.{receive_of, receives_of}
use Rattle.trace_ops.specs.Round.{rounds_of}
use Rattle.trace_ops.specs.Steps.{Placed, Step, part_step, posted_by}
use Rattle.trace_ops.specs.Trust.{cancelled_of, cancelled_post}
use Rattle.trace_ops.proofs.Parts.{part_gives, part_gives_nothing_back, part_posts, start_enters_none, start_is_known}
use Rattle.trace_ops.proofs.Taken.{turned_more, uncounted}
use Rattle.trace_ops.specs.Tables.{kept_of}
use Rattle.trace_ops.proofs.ops.gather.Gathered.add_part.Goals as goal

pub returns-clause-gathered : goal.returns-clause-gathered
returns-clause-gathered c later before =
    let n = c.args.n in
    let rank = c.args.rank in
    let layout = c.args.layout.now in
    let read = plain_called c.args.called.now in
    let start = c.requires.start in
    let x = c.args.part.request in
    let init = plain_init c.args.part.init in
    let s = part_step n c.args.part.part read x init in
    let p : Placed = record { step = s; later = later } in
    let fate = c.fate_of-fate.ensures later (kept_of c.args.self.now.touched) before.touched c.in_ok-touch.ensures.kept in
    let back : to_z w64 (of_z w64 x) ≡ x = to_z-of_z w64 x (search rules) in
    let posted : c.restarts-given.result ≡ posted_by s =
    c.restarts-given.ensures ∙ ap (λ (z : ℤ). if is_some read.outs then Some z else None) back ∙ sym (part_posts n c.args.part.part read x init start) in
    let told : IsFateOf (posted_by s) later c.fate_of-fate.result = subst (λ (o : Option ℤ). IsFateOf o later c.fate_of-fate.result) posted fate in
    record {
      sends = turned_more c.args.self.now.sends.items c.push_some.new.list.items (sends_of layout rank later) c.message_in.result (message_of layout rank p)
          (cc (c.message_in.ensures s later told c.as_started-call.ensures, c.group_given_world-group.ensures, c.as_started-call.ensures)) c.in_ok-push_some.ensures before.sends;
      receives = turned_more c.args.self.now.receives.items c.push_some-2.new.list.items (receives_of layout rank later) c.receive_in.result (receive_of layout rank p)
          (cc (c.receive_in.ensures s later told refl before.given_back c.as_started-call.ensures, c.group_given_world-group.ensures, c.as_started-call.ensures)) c.in_ok-push_some-2.ensures before.receives;
      rounds = before.rounds ∙ sym (ap (λ (o : Option Entered). cons_option o (rounds_of layout rank later)) (start_enters_none layout rank n read.call start));
      active = turned_more c.args.self.now.active.items c.push_some-3.new.list.items (active_of rank later) c.still_active.result (active_post rank p)
          (c.still_active.ensures later (posted_by s) told) c.in_ok-push_some-3.ensures before.active;
      cancelled = turned_more c.args.self.now.cancelled.items c.push_some-4.new.list.items (cancelled_of rank later) c.cancelled_with.result (cancelled_post rank p)
          (c.cancelled_with.ensures later (posted_by s) told) c.in_ok-push_some-4.ensures before.cancelled;
      foreign = before.foreign ∙ sym (uncounted (λ (y : Step). is_foreign layout rank y.number y.entry.call) s later (start_is_known layout rank n read.call start));
      given_back = before.given_back ∙ sym (part_gives_nothing_back n c.args.part.part read x init later start);
      touched = c.in_ok-touch.ensures.follows c.args.calls.now s (record { number = refl; at = c.requires.place; start = start }) (posted ∙ part_gives n c.args.part.part read x init start) later before.touched;
    }
