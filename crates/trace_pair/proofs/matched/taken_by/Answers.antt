use Rattle.std.proofs.Common.{sym, ◌∙◌}
use Rattle.trace_pair.specs.After.{comes_after}
use Rattle.trace_pair.proofs.Fitting.{settled_parts}
use Rattle.trace_pair.proofs.Takers.{none_waiting, unsure_left, hidden_left, is_offered_it, other_free, no_other_free}
use Rattle.trace_pair.proofs.matched.taken_by.Goals as goal

pub returns-in_default-clause-none : goal.returns-in_default-clause-none
returns-in_default-clause-none c = λ ms qs more adds held.
    none_waiting (comes_after c.args.reaches.now) ms qs more c.args.q.now adds c.requires _ _ _ _ held.sets held.sent_alone held.posted_alone (c.in_default.ensures.none (settled_parts c.args.q.now c.requires).0)

pub returns-then-not-is_sure-clause-none : goal.returns-then-not-is_sure-clause-none
returns-then-not-is_sure-clause-none c = λ ms qs more adds held.
    unsure_left (comes_after c.args.reaches.now) ms qs more c.args.q.now adds c.requires _ _ _ _ held.sets held.sent_alone held.posted_alone c.in-Some.m c.in-Some.ensures.some (sym c.is_sure.ensures ∙ c.if-not-is_sure.true)

pub returns-then-hides-clause-none : goal.returns-then-hides-clause-none
returns-then-hides-clause-none c = λ ms qs more adds held.
    hidden_left (comes_after c.args.reaches.now) ms qs more c.args.q.now adds c.requires _ _ _ _ held.sets held.sent_alone held.posted_alone c.in-Some.m c.in-Some.ensures.some (c.hides.ensures.yes c.if-hides.true)

pub returns-in-Some-first_for-clause-none : goal.returns-in-Some-first_for-clause-none
returns-in-Some-first_for-clause-none c = λ ms qs more adds held.
    let f = c.in-Some-first_for.ensures.some in
    other_free (comes_after c.args.reaches.now) ms qs more c.args.q.now adds c.requires _ _ _ _ held.sets held.sent_alone held.posted_alone c.in-Some.m c.in-Some.ensures.some (sym c.is_sure.ensures ∙ c.if-not-is_sure.false)
    (c.hides.ensures.no c.if-hides.false) c.in-Some-first_for.field-0 f.member f.fit

pub returns-clause-some : goal.returns-clause-some
returns-clause-some c = λ ms qs more adds held.
    let after = comes_after c.args.reaches.now in
    let sure = sym c.is_sure.ensures ∙ c.if-not-is_sure.false in
    let none = c.hides.ensures.no c.if-hides.false in (
      is_offered_it after ms qs more c.args.q.now adds c.requires _ _ _ _ held.sets held.sent_alone held.posted_alone c.in-Some.m c.in-Some.ensures.some sure none,
      no_other_free after ms qs more c.args.q.now adds c.requires _ _ _ _ held.sets held.sent_alone held.posted_alone c.in-Some.m c.in-Some.ensures.some sure none c.in_default-first_for.ensures.none,
    )
