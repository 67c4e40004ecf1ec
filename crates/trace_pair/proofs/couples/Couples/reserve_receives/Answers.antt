use Rattle.std.proofs.Common.{subst, refl, List}
use Rattle.trace_pair.specs.Coupled.{couples_in}
use Rattle.trace_pair.specs.Sets.{IsSameSet}
use Rattle.trace_pair.specs.declared.pair.Couple.{Couple}
use Rattle.trace_pair.proofs.Mutual.{mutual_same, couples_same}
use Rattle.trace_pair.proofs.couples.Couples.reserve_receives.Goals as goal

pub invariant_of-self : goal.invariant_of-self
invariant_of-self c = mutual_same c.self.inside.takers.items c.self.inside.takers.items c.self.inside.taken.items c.reserve.new.rows.items c.self.invariant c.self.invariant.takers_rise c.reserve.ensures.slots (λ k. refl) c.reserve.ensures.same

pub returns : goal.returns
returns c = subst (λ (l : List Couple). IsSameSet l (couples_in c.self.inside.takers.items c.reserve.new.rows.items)) c.self.view_is
    (couples_same c.self.inside.takers.items c.self.inside.takers.items c.self.inside.taken.items c.reserve.new.rows.items c.self.invariant c.self.invariant.takers_rise c.reserve.ensures.slots (λ k. refl) c.reserve.ensures.same)
