use Rattle.std.proofs.Common.{◌<◌, length}
use Rattle.trace_know.specs.Segment.{PlacedEvents}
use Rattle.trace_world.specs.Shows.{WorldState}
use Rattle.trace_world.proofs.Answers.{still}
use Rattle.trace_world.proofs.world.World.post.Goals as goal
use Rattle.std.proofs.Common.{refl, subst, sym, ap, arith}
use Rattle.trace_world.proofs.Keeping.{post_keeps}

pub invariant_of-self : goal.invariant_of-self
invariant_of-self c =
    (post_keeps _ _ _ _ _ _ _ _ c.self.invariant.0 (subst (λ (w : WorldState). c.args.node < length w.nodes) (sym c.self.view_is) c.requires.there) (omega (arith, ap (λ (s : PlacedEvents). s.rank) c.get.ensures)) c.post.ensures.ok c.post.ensures.err, c.self.invariant.1)

pub returns-clause-answers : goal.returns-clause-answers
returns-clause-answers c = rw (← c.self.view_is) (still _ _ _ _ c.post.ensures.err refl)
