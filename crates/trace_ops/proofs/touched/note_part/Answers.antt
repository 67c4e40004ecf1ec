use Rattle.std.proofs.Common.{◌≡◌, ◌∙◌, ap, cond, rules, w64, to_z, of_z}
use Rattle.std.specs.Prelude.{ℤ, Some, None}
use Rattle.std.proofs.lemmas.Int.{to_z-of_z}
use Rattle.std.specs.Ordering.{int_eq}
use Rattle.trace_ops.specs.Steps.{given_by}
use Rattle.trace_ops.specs.Touched.{ends_at}
use Rattle.trace_ops.proofs.Behind.{part_given, part_silent}
use Rattle.trace_ops.specs.Tables.{kept_of}
use Rattle.trace_ops.proofs.touched.note_part.Goals as goal

pub returns-in_ok-touch-in-Some-clause-follows : goal.returns-in_ok-touch-in-Some-clause-follows
returns-in_ok-touch-in-Some-clause-follows c calls s part gives later f =
    let x = c.in-Some.request in
    let back : to_z w64 (of_z w64 x) ≡ x = to_z-of_z w64 x (search rules) in
    let given : Some x ≡ given_by s = cc in
    part_given calls c.args.n s later part (kept_of c.args.touched.now) (kept_of c.note_post.new.touched) x given
    (λ y. c.in_ok-touch-in-Some.ensures.noted y ∙ ap (λ (z : ℤ). cond (int_eq z y) (Some (ends_at c.args.n 0)) (kept_of c.args.touched.now y)) back) f

pub returns-in-None-clause-follows : goal.returns-in-None-clause-follows
returns-in-None-clause-follows c calls s part gives later f =
    let given : None ≡ given_by s = cc in
    part_silent calls c.args.n s later part (kept_of c.args.touched.now) given f
