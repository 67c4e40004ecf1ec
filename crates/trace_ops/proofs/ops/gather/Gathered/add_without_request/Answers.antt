use Rattle.std.proofs.Common.{◌≡◌, refl, sym, ◌∙◌, ap, subst, false}
use Rattle.std.specs.Prelude.{ℤ, Option, None, Bool, true, ◌&&◌, ◌||◌}
use Rattle.std.specs.List.{cons_option}
use Rattle.trace_ops.specs.Active.{active_of, still_active}
use Rattle.trace_ops.specs.Called.{plain_called}
use Rattle.trace_ops.specs.Fate.{IsFateOf}
use Rattle.trace_ops.specs.Foreign.{is_foreign}
use Rattle.trace_ops.specs.Message.{message_of, sends_of}
use Rattle.trace_ops.specs.Receive.{receive_of, receives_of}
use Rattle.trace_ops.specs.Round.{entered_of, rounds_of}
use Rattle.trace_ops.specs.Steps.{Placed, Step, name_of, posted_by, whole}
use Rattle.trace_ops.specs.Trust.{cancelled_of, cancelled_with, gives_back, is_cancelled_post, is_matched_receive}
use Rattle.trace_ops.proofs.Behind.{posts_none, whole_silent}
use Rattle.trace_ops.proofs.Taken.{counted_more, turned_more}
use Rattle.trace_ops.specs.Tables.{kept_of}
use Rattle.trace_ops.proofs.ops.gather.Gathered.add_without_request.Goals as goal

never_both : (b : Bool) → (b && false) ≡ false
never_both true = refl
never_both false = refl

pub returns-clause-gathered : goal.returns-clause-gathered
returns-clause-gathered c calls later before =
    let n = c.args.n in
    let rank = c.args.rank in
    let layout = c.args.layout.now in
    let read = plain_called c.args.called.now in
    let s = whole n read in
    let p : Placed = record { step = s; later = later } in
    let none : posted_by s ≡ None = posts_none n read c.requires.none in
    let told : IsFateOf (posted_by s) later None = subst (λ (o : Option ℤ). IsFateOf o later None) (sym none) tt in
    record {
      sends = turned_more c.args.self.now.sends.items c.push_some.new.list.items (sends_of layout rank later) c.message_in.result (message_of layout rank p)
          (cc (c.message_in.ensures s later told refl, c.group_given_world-group.ensures)) c.in_ok-push_some.ensures before.sends;
      receives = turned_more c.args.self.now.receives.items c.push_some-2.new.list.items (receives_of layout rank later) c.receive_in.result (receive_of layout rank p)
          (cc (c.receive_in.ensures s later told refl before.given_back refl, c.group_given_world-group.ensures)) c.in_ok-push_some-2.ensures before.receives;
      rounds = turned_more c.args.self.now.rounds.items c.push_some-3.new.list.items (rounds_of layout rank later) c.entered_in.result (entered_of layout rank n read.call)
          (cc (c.entered_in.ensures, c.group_given_world-group.ensures)) c.in_ok-push_some-3.ensures before.rounds;
      active = before.active ∙ sym (ap (λ (o : Option ℤ). cons_option (still_active (name_of rank s) later o) (active_of rank later)) none);
      cancelled = before.cancelled ∙ sym (ap (λ (o : Option ℤ). cons_option (cancelled_with (name_of rank s) later o) (cancelled_of rank later)) none);
      foreign = counted_more (λ (x : Step). is_foreign layout rank x.number x.entry.call) s later c.args.self.now.foreign c.with_call-self.result (is_foreign layout rank n read.call)
          refl (cc (c.with_call-self.ensures, c.group_given_world-group.ensures)) before.foreign;
      given_back = before.given_back ∙ sym (ap (λ (o : Option ℤ). (is_matched_receive read.call && is_cancelled_post o later) || gives_back later) none
          ∙ ap (λ (b : Bool). b || gives_back later) (never_both (is_matched_receive read.call)));
      touched = whole_silent calls n read later (kept_of c.args.self.now.touched) c.requires.none before.touched;
    }
