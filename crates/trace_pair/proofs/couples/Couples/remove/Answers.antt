use Rattle.std.proofs.Common.{sym, subst, refl, List}
use Rattle.trace_ops.specs.Order.{Has}
use Rattle.trace_pair.specs.Coupled.{couples_in}
use Rattle.trace_pair.specs.Sets.{DropsFrom}
use Rattle.trace_pair.specs.declared.pair.Couple.{Couple}
use Rattle.trace_pair.proofs.Mutual.{mutual_same, mutual_less, couples_less, nothing_left, taken_name, some_or_none}
use Rattle.trace_pair.proofs.couples.Couples.remove.Goals as goal

pub invariant_of-self : goal.invariant_of-self
invariant_of-self c =
    mutual_less c.self.inside.takers.items c.take_at-in-Some.new.rows.items c.self.inside.taken.items c.take_at.new.rows.items c.self.invariant c.args.c.now.receive.name c.in-Some.m c.take_at-in-Some.ensures.slots c.take_at.ensures.slots
    (sym c.in-Some.ensures.taken) c.take_at-in-Some.ensures.left c.take_at.ensures.left

pub returns-in-Some : goal.returns-in-Some
returns-in-Some c = λ has.
    subst (λ (l : List Couple). DropsFrom l (couples_in c.take_at-in-Some.new.rows.items c.take_at.new.rows.items) c.args.c.now) c.self.view_is
    (couples_less c.self.inside.takers.items c.take_at-in-Some.new.rows.items c.self.inside.taken.items c.take_at.new.rows.items c.self.invariant c.args.c.now.receive.name c.in-Some.m c.take_at-in-Some.ensures.slots c.take_at.ensures.slots
    (sym c.in-Some.ensures.taken) c.take_at-in-Some.ensures.left c.take_at.ensures.left c.args.c.now refl (subst (λ (l : List Couple). Has l c.args.c.now) (sym c.self.view_is) has))

pub invariant_of-self-in-None : goal.invariant_of-self-in-None
invariant_of-self-in-None c =
    mutual_same _ _ _ _ c.self.invariant c.self.invariant.takers_rise c.take_at.ensures.slots (λ k. refl)
    (nothing_left c.self.inside.taken.items c.take_at.new.rows.items c.args.c.now.receive.name (sym c.in-None.ensures.taken) c.take_at.ensures.left)

pub returns-in-None : goal.returns-in-None
returns-in-None c = λ has.
    absurd (some_or_none _ _ (taken_name c.self.inside.takers.items c.self.inside.taken.items c.self.invariant c.args.c.now (subst (λ (l : List Couple). Has l c.args.c.now) (sym c.self.view_is) has)) (sym c.in-None.ensures.taken))
