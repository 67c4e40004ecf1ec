use Rattle.std.proofs.Common.{◌≡◌, ◌<◌, ◌∷◌, slice_set, drop, arith, length, subst, sym}
use Rattle.std.proofs.lemmas.Grind.{common_steps}
use Rattle.trace_world.specs.Schedule.{at}
use Rattle.trace_world.specs.Shows.{WorldState}
use Rattle.trace_world.proofs.Following.{takes}
use Rattle.trace_world.proofs.Hearing.{joins_heard}
use Rattle.trace_world.proofs.Keeping.{laid_keeps, pop_keeps}
use Rattle.trace_world.proofs.world.World.take.Goals as goal

pub invariant_of-self-2 : goal.invariant_of-self-2
invariant_of-self-2 c =
    let rest : slice_set c.self.inside.inboxes.items c.args.node c.pop.new.self ≡ slice_set c.self.inside.inboxes.items c.args.node (drop 1 (at c.self.inside.inboxes.items c.args.node)) = grind (arith, common_steps) in
    let there = (subst (λ (w : WorldState). c.args.node < length w.nodes) (sym c.self.view_is) c.requires.there) in
    let more = c.in_ok-hold.ensures.1 in (
      laid_keeps _ _ _ _ _ more.layouts (pop_keeps _ _ _ _ _ _ there rest c.self.invariant.0),
      joins_heard (record { associative = c.join_laws.ensures.associative; commutative = c.join_laws.ensures.commutative; idempotent = c.join_laws.ensures.idempotent }) _ _ _ _ _ _ there more.knows c.self.invariant.1,
    )

pub returns-clause-done : goal.returns-clause-done
returns-clause-done c =
    let front : at c.self.inside.inboxes.items c.args.node ≡ c.in-Some.segment.now ∷ drop 1 (at c.self.inside.inboxes.items c.args.node) = grind (arith, common_steps) in
    let rest : slice_set c.self.inside.inboxes.items c.args.node c.pop.new.self ≡ slice_set c.self.inside.inboxes.items c.args.node (drop 1 (at c.self.inside.inboxes.items c.args.node)) = grind (arith, common_steps) in
    λ done. rw (← c.self.view_is) (takes c.view_laws.ensures.union _ _ _ _ _ _ _ _ front rest (rw (← c.get.ensures) c.in_ok-hold.ensures.1.knows))

pub returns-clause-answers : goal.returns-clause-answers
returns-clause-answers c = rw (← c.self.view_is) (c.in_ok-hold.ensures.0, c.in_ok-hold.ensures.1.stale, c.in_ok-hold.ensures.2)
