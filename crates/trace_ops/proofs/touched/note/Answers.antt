use Rattle.std.proofs.Common.{◌≡◌, sym, ◌∙◌, ap, cond, rules, w64, to_z, of_z}
use Rattle.std.specs.Prelude.{ℤ, Some, None}
use Rattle.std.specs.Option.{option_copied}
use Rattle.std.proofs.lemmas.Int.{to_z-of_z}
use Rattle.std.specs.Ordering.{int_eq}
use Rattle.trace_ops.specs.Called.{plain_called}
use Rattle.trace_ops.specs.Request.{given_of}
use Rattle.trace_ops.specs.Touched.{ends_at, marked}
use Rattle.trace_ops.proofs.Behind.{idle, whole_cancel, whole_given}
use Rattle.trace_ops.specs.Tables.{kept_of}
use Rattle.trace_ops.proofs.touched.note.Goals as goal

pub returns-in_ok-note_cancel-in-Some-default-clause-follows : goal.returns-in_ok-note_cancel-in-Some-default-clause-follows
returns-in_ok-note_cancel-in-Some-default-clause-follows c calls at later f =
    let back : to_z w64 (of_z w64 c.in-Some-default.request) ≡ c.in-Some-default.request = to_z-of_z w64 c.in-Some-default.request (search rules) in
    whole_cancel calls c.args.n (plain_called c.args.called.now) later (kept_of c.args.touched.now) (kept_of c.note_cancel.new.touched)
    c.in-Some-default.request (sym c.cancels.ensures ∙ c.in-Some-default.is-0)
    (λ x. c.in_ok-note_cancel-in-Some-default.ensures x ∙ ap (λ (z : ℤ). cond (int_eq z x) (Some (marked (kept_of c.args.touched.now x))) (kept_of c.args.touched.now x)) back) f

pub returns-in_ok-touch-in-None-Some-clause-follows : goal.returns-in_ok-touch-in-None-Some-clause-follows
returns-in_ok-touch-in-None-Some-clause-follows c calls at later f =
    let back : to_z w64 (of_z w64 c.in-None-Some.request) ≡ c.in-None-Some.request = to_z-of_z w64 c.in-None-Some.request (search rules) in
    whole_given calls c.args.n (plain_called c.args.called.now) later (kept_of c.args.touched.now) (kept_of c.note_post.new.touched)
    c.in-None-Some.request at (sym c.cancels.ensures ∙ c.in-None-Some.is-0) (sym c.given.ensures ∙ c.in-None-Some.is-1)
    (λ x. c.in_ok-touch-in-None-Some.ensures.noted x ∙ ap (λ (z : ℤ). cond (int_eq z x) (Some (ends_at c.args.n 0)) (kept_of c.args.touched.now x)) back) f

pub returns-in_ok-note_done-in-None-None-clause-follows : goal.returns-in_ok-note_done-in-None-None-clause-follows
returns-in_ok-note_done-in-None-None-clause-follows c =
    c.in_ok-note_done-in-None-None.ensures (record { cancels_none = sym c.cancels.ensures ∙ c.in-None-None.is-0; gives_none = sym c.given.ensures ∙ c.in-None-None.is-1 })

pub returns-in_ok-note_cancel-in-Some-default-clause-kept : goal.returns-in_ok-note_cancel-in-Some-default-clause-kept
returns-in_ok-note_cancel-in-Some-default-clause-kept c x given =
    let call = c.args.called.now.call.now in
    let outs = option_copied c.args.called.now.outs in
    let none : given_of call outs ≡ None = (idle call outs c.in-Some-default.request (sym c.cancels.ensures ∙ c.in-Some-default.is-0)).0 in
    let some : given_of call outs ≡ Some x = given in
    absurd (cc (none, some))
