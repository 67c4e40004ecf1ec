use Rattle.std.proofs.Common.{◌≡◌, refl, sym, ◌∙◌, subst}
use Rattle.std.specs.Prelude.{ℤ, Option}
use Rattle.trace_ops.specs.Active.{active_of, active_post}
use Rattle.trace_ops.specs.Called.{plain_called}
use Rattle.trace_ops.specs.Fate.{IsFateOf}
use Rattle.trace_ops.specs.Foreign.{is_foreign}
use Rattle.trace_ops.specs.Message.{message_of, sends_of}
use Rattle.trace_ops.specs.Receive.{receive_of, receives_of}
use Rattle.trace_ops.specs.Round.{entered_of, rounds_of}
use Rattle.trace_ops.specs.Steps.{Placed, Step, posted_by, whole}
use Rattle.trace_ops.specs.Trust.{cancelled_of, cancelled_post}
use Rattle.trace_ops.proofs.Behind.{posts_given}
use Rattle.trace_ops.proofs.Taken.{counted_more, turned_more}
use Rattle.trace_ops.specs.Tables.{kept_of}
use Rattle.trace_ops.proofs.ops.gather.Gathered.add_whole.Goals as goal

pub returns-clause-gathered : goal.returns-clause-gathered
returns-clause-gathered c later before =
    let n = c.args.n in
    let rank = c.args.rank in
    let layout = c.args.layout.now in
    let read = plain_called c.args.called.now in
    let s = whole n read in
    let p : Placed = record { step = s; later = later } in
    let posted : c.posted-posted.result ≡ posted_by s = c.posted-posted.ensures in
    let fate = c.fate_of-fate.ensures later (kept_of c.args.self.now.touched) before.touched (λ x h. c.in_ok-touch.ensures.kept x (posts_given n read x (sym posted ∙ h))) in
    let told : IsFateOf (posted_by s) later c.fate_of-fate.result = subst (λ (o : Option ℤ). IsFateOf o later c.fate_of-fate.result) posted fate in
    record {
      sends = turned_more c.args.self.now.sends.items c.push_some.new.list.items (sends_of layout rank later) c.message_in.result (message_of layout rank p)
          (cc (c.message_in.ensures s later told refl, c.group_given_world-group.ensures)) c.in_ok-push_some.ensures before.sends;
      receives = turned_more c.args.self.now.receives.items c.push_some-2.new.list.items (receives_of layout rank later) c.receive_in.result (receive_of layout rank p)
          (cc (c.receive_in.ensures s later told refl before.given_back refl, c.group_given_world-group.ensures)) c.in_ok-push_some-2.ensures before.receives;
      rounds = turned_more c.args.self.now.rounds.items c.push_some-3.new.list.items (rounds_of layout rank later) c.entered_in.result (entered_of layout rank n read.call)
          (cc (c.entered_in.ensures, c.group_given_world-group.ensures)) c.in_ok-push_some-3.ensures before.rounds;
      active = turned_more c.args.self.now.active.items c.push_some-4.new.list.items (active_of rank later) c.still_active.result (active_post rank p)
          (c.still_active.ensures later (posted_by s) told) c.in_ok-push_some-4.ensures before.active;
      cancelled = turned_more c.args.self.now.cancelled.items c.push_some-5.new.list.items (cancelled_of rank later) c.cancelled_with.result (cancelled_post rank p)
          (c.cancelled_with.ensures later (posted_by s) told) c.in_ok-push_some-5.ensures before.cancelled;
      foreign = counted_more (λ (x : Step). is_foreign layout rank x.number x.entry.call) s later c.args.self.now.foreign c.with_call-self.result (is_foreign layout rank n read.call)
          refl (cc (c.with_call-self.ensures, c.group_given_world-group.ensures)) before.foreign;
      given_back = c.gives_back-self.ensures later (posted_by s) told before.given_back;
      touched = c.in_ok-touch.ensures.follows c.args.calls.now c.requires.place later before.touched;
    }
