use Rattle.std.proofs.Common.{sym, ◌∙◌}
use Rattle.mpi_model.specs.Trusts.{is_sure}
use Rattle.trace_pair.specs.After.{comes_after}
use Rattle.trace_pair.proofs.Fitting.{false_apart, settled_parts}
use Rattle.trace_pair.proofs.Takers.{none_free, hidden_untaken, other_waits, taker_found}
use Rattle.trace_pair.proofs.matched.taker_for.Goals as goal

pub returns-then-not-is_sure-clause-none : goal.returns-then-not-is_sure-clause-none
returns-then-not-is_sure-clause-none c = λ ms qs held q i t. false_apart (is_sure c.args.m.now.trust) (sym c.is_sure.ensures ∙ c.if-not-is_sure.true) t.sure_message

pub returns-in_default-clause-none : goal.returns-in_default-clause-none
returns-in_default-clause-none c = λ ms qs held. none_free (comes_after c.args.reaches.now) ms qs _ _ _ _ held.sets held.posted_alone c.args.m.now c.in_default.ensures.none

pub returns-then-hides_up_to-clause-none : goal.returns-then-hides_up_to-clause-none
returns-then-hides_up_to-clause-none c = λ ms qs held.
    hidden_untaken (comes_after c.args.reaches.now) ms qs _ _ _ _ held.sets held.posted_alone c.args.m.now c.in-Some.q c.in-Some.ensures.some (c.hides_up_to.ensures.yes c.if-hides_up_to.true)

pub returns-in-Some-first_for-clause-none : goal.returns-in-Some-first_for-clause-none
returns-in-Some-first_for-clause-none c = λ ms qs held.
    let f = c.in-Some-first_for.ensures.some in
    other_waits (comes_after c.args.reaches.now) ms qs _ _ _ _ held.sets held.posted_alone c.args.m.now c.in-Some.q c.in-Some.ensures.some c.in-Some-first_for.field-0 f.member f.fit

pub returns-clause-some : goal.returns-clause-some
returns-clause-some c = λ ms qs held.
    let first = c.in-Some.ensures.some in
    let v = held.sets.frees c.in-Some.q first.member in (
      v.0,
      taker_found (comes_after c.args.reaches.now) ms qs _ _ _ _ held.sets held.posted_alone c.args.m.now c.in-Some.q first (sym c.is_sure.ensures ∙ c.if-not-is_sure.false)
          (c.hides_up_to.ensures.no c.if-hides_up_to.false) (c.in_default-first_for.ensures.none (settled_parts c.in-Some.q v.1).0),
    )
