use Rattle.std.proofs.Common.{◌≡◌, ◌∙◌, ap, sym, subst, refl, List}
use Rattle.mpi_model.specs.declared.event.OpName.{OpName}
use Rattle.mpi_model.specs.declared.message.Receive.{Receive}
use Rattle.trace_pair.specs.Coupled.{IsNew, couples_in, receive_by, taker_name}
use Rattle.trace_pair.specs.Indexed.{couple_of}
use Rattle.trace_pair.specs.Slots.{value_of}
use Rattle.trace_pair.specs.Sets.{AddsTo}
use Rattle.trace_pair.specs.declared.pair.Couple.{Couple}
use Rattle.trace_pair.specs.declared.pair.Taker.{Taker}
use Rattle.trace_pair.proofs.Mutual.{mutual_same, mutual_more, couples_more, same_again, new_taker, new_taken}
use Rattle.trace_pair.proofs.couples.Couples.insert.Goals as goal

-- the first map was refused
pub invariant_of-self : goal.invariant_of-self
invariant_of-self c = mutual_same _ _ _ _ c.self.invariant c.put_new.ensures.slots c.self.invariant.taken_rise c.in_err-put_new.ensures.err (λ k. refl)

-- the message is in a couple
pub invariant_of-self-then-not-branch : goal.invariant_of-self-then-not-branch
invariant_of-self-then-not-branch c =
    mutual_same c.self.inside.takers.items c.put_new.new.rows.items c.self.inside.taken.items c.self.inside.taken.items c.self.invariant c.put_new.ensures.slots c.self.invariant.taken_rise
    (c.in_ok-put_new.ensures.kept c.if-not-branch.true) (λ k. refl)

-- so it isn't new
pub returns-then-not-branch : goal.returns-then-not-branch
returns-then-not-branch c = λ new.
    let n = subst (λ (l : List Couple). IsNew l c.args.c) (sym c.self.view_is) new in
    absurd (c.in_ok-put_new.ensures.there c.if-not-branch.true (new_taker c.self.inside.takers.items c.self.inside.taken.items c.self.invariant c.args.c n))

-- both were put
pub invariant_of-self-in-Ok-true : goal.invariant_of-self-in-Ok-true
invariant_of-self-in-Ok-true c =
    mutual_more c.self.inside.takers.items c.put_new.new.rows.items c.self.inside.taken.items c.put_new-2.new.rows.items c.self.invariant c.args.c.message c.taker_of-taker.result c.put_new.ensures.slots c.put_new-2.ensures.slots
    (c.in_ok-put_new.ensures.put c.if-not-branch.false) (c.in-Ok-true.ensures.put c.in-Ok-true.field-0-test) (c.in_ok-put_new.ensures.free c.if-not-branch.false) (c.in-Ok-true.ensures.free c.in-Ok-true.field-0-test)

pub returns-in-Ok-true : goal.returns-in-Ok-true
returns-in-Ok-true c = λ new.
    subst (λ (l : List Couple). AddsTo l (couples_in c.put_new.new.rows.items c.put_new-2.new.rows.items) c.args.c) c.self.view_is
    (couples_more c.self.inside.takers.items c.put_new.new.rows.items c.self.inside.taken.items c.put_new-2.new.rows.items c.self.invariant c.args.c.message c.taker_of-taker.result c.put_new.ensures.slots c.put_new-2.ensures.slots
    (c.in_ok-put_new.ensures.put c.if-not-branch.false) (c.in-Ok-true.ensures.put c.in-Ok-true.field-0-test) (c.in_ok-put_new.ensures.free c.if-not-branch.false) (c.in-Ok-true.ensures.free c.in-Ok-true.field-0-test)
    c.args.c (ap (λ q. couple_of c.args.c.message q) (new.fit ∙ ap (λ (t : Taker). receive_by c.args.c.message t) (sym c.taker_of-taker.ensures))))

-- the receive is in a couple, and the taker was taken back
pub invariant_of-self-in-Ok-false : goal.invariant_of-self-in-Ok-false
invariant_of-self-in-Ok-false c =
    mutual_same c.self.inside.takers.items c.take_at.new.rows.items c.self.inside.taken.items c.put_new-2.new.rows.items c.self.invariant c.take_at.ensures.slots c.put_new-2.ensures.slots
    (same_again c.self.inside.takers.items c.put_new.new.rows.items c.take_at.new.rows.items c.args.c.message.name c.taker_of-taker.result (c.in_ok-put_new.ensures.free c.if-not-branch.false) (c.in_ok-put_new.ensures.put c.if-not-branch.false) c.take_at.ensures.left)
    (c.in-Ok-false.ensures.kept c.in-Ok-false.field-0-test)

-- so it isn't new
pub returns-in-Ok-false : goal.returns-in-Ok-false
returns-in-Ok-false c = λ new.
    let n = subst (λ (l : List Couple). IsNew l c.args.c) (sym c.self.view_is) new in
    let k : taker_name c.args.c.message c.taker_of-taker.result ≡ c.args.c.receive.name =
    ap (λ (t : Taker). taker_name c.args.c.message t) c.taker_of-taker.ensures ∙ sym (ap (λ (q : Receive). q.name) n.fit) in
    absurd (c.in-Ok-false.ensures.there c.in-Ok-false.field-0-test (ap (λ (r : OpName). value_of c.self.inside.taken.items r) k ∙ new_taken c.self.inside.takers.items c.self.inside.taken.items c.self.invariant c.args.c n))

-- the second map was refused, and the taker was taken back
pub invariant_of-self-in-Err : goal.invariant_of-self-in-Err
invariant_of-self-in-Err c =
    mutual_same c.self.inside.takers.items c.take_at-in-Err.new.rows.items c.self.inside.taken.items c.put_new-2.new.rows.items c.self.invariant c.take_at-in-Err.ensures.slots c.put_new-2.ensures.slots
    (same_again c.self.inside.takers.items c.put_new.new.rows.items c.take_at-in-Err.new.rows.items c.args.c.message.name c.taker_of-taker.result (c.in_ok-put_new.ensures.free c.if-not-branch.false) (c.in_ok-put_new.ensures.put c.if-not-branch.false) c.take_at-in-Err.ensures.left) c.in-Err.ensures.err
