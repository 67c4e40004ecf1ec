use Rattle.std.proofs.Common.{◌≡◌, ◌∙◌, ◌<◌, ◌≤◌, ◌+◌, ◌-◌, ℕ, Bool, true, false, ap, arith, sym, if◌then◌else◌}
use Rattle.trace_diagnosis.specs.Called.{count_of}
use Rattle.trace_diagnosis.specs.Tails.{first_from, is_poll_part, part_in, polls_from, stands_in}
use Rattle.trace_diagnosis.proofs.Tailing.{first_here, first_more, polls_more}
use Rattle.trace_diagnosis.proofs.polls.tail_of.Goals as goal

one_at_most : (b : Bool) → (if b then 1 else 0) ≤ 1
one_at_most true = omega arith
one_at_most false = omega arith

pub back-preserved : goal.back-preserved
back-preserved c =
    let events = c.args.events.now in
    let may = stands_in events in
    let before = c.back.invariant in
    let n : ℕ = c.back.first - 1 in
    let e : c.back.first ≡ n + 1 = omega (arith, c.back-test.true) in
    let lt : n < count_of events = omega (arith, c.back-test.true, before.few) in
    record {
      first = sym (first_more may n (sym c.stands_at.ensures ∙ c.if-stands_at.true)) ∙ ap (first_from may) (sym e) ∙ before.first;
      count = c.more_if-count.ensures ∙ ap (λ (b : Bool). c.back.count + (if b then 1 else 0)) c.is_poll_at.ensures
          ∙ ap (λ (k : ℕ). k + (if is_poll_part (part_in events n) then 1 else 0)) (before.count ∙ ap (polls_from events) e) ∙ sym (polls_more events n lt);
      few = omega (arith, c.more_if-count.ensures, one_at_most c.is_poll_at.result, before.few, e);
    }

pub returns-after-back-clause-first : goal.returns-after-back-clause-first
returns-after-back-clause-first c =
    let may = stands_in c.args.events.now in
    let e : c.back.first ≡ 0 = omega (arith, c.back-test.false) in
    e ∙ sym (ap (first_from may) e) ∙ c.back.invariant.first

pub returns-else-stands_at-clause-first : goal.returns-else-stands_at-clause-first
returns-else-stands_at-clause-first c =
    let may = stands_in c.args.events.now in
    let n : ℕ = c.back.first - 1 in
    let e : c.back.first ≡ n + 1 = omega (arith, c.back-test.true) in
    e ∙ sym (first_here may n (sym c.stands_at.ensures ∙ c.if-stands_at.false)) ∙ ap (first_from may) (sym e) ∙ c.back.invariant.first
