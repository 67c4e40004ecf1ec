use Rattle.std.proofs.Common.{subst, refl, List}
use Rattle.trace_pair.specs.Coupled.{couples_in}
use Rattle.trace_pair.specs.Sets.{IsSameSet}
use Rattle.trace_pair.specs.declared.pair.Couple.{Couple}
use Rattle.trace_pair.proofs.Mutual.{mutual_same, couples_same}
use Rattle.trace_pair.proofs.couples.Couples.expect_receive.Goals as goal

pub invariant_of-self : goal.invariant_of-self
invariant_of-self c = mutual_same c.self.inside.takers.items c.self.inside.takers.items c.self.inside.taken.items c.expect.new.rows.items c.self.invariant c.self.invariant.takers_rise c.expect.ensures.slots (λ k. refl) c.expect.ensures.same

pub returns : goal.returns
returns c = subst (λ (l : List Couple). IsSameSet l (couples_in c.self.inside.takers.items c.expect.new.rows.items)) c.self.view_is
    (couples_same c.self.inside.takers.items c.self.inside.takers.items c.self.inside.taken.items c.expect.new.rows.items c.self.invariant c.self.invariant.takers_rise c.expect.ensures.slots (λ k. refl) c.expect.ensures.same)
