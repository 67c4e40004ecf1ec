use Rattle.std.proofs.Common.{◌<◌, length, slice_set}
use Rattle.trace_world.specs.Shows.{WorldState}
use Rattle.trace_world.proofs.Answers.{anew}
use Rattle.trace_world.proofs.world.World.restart.Goals as goal
use Rattle.std.proofs.Common.{subst, sym, arith, ap, refl}
use Rattle.std.specs.FinMap.{empty}
use Rattle.trace_world.proofs.Hearing.{renews_heard}
use Rattle.trace_node.specs.Node.{Held}
use Rattle.trace_world.proofs.Following.{restarts}
use Rattle.trace_world.proofs.Keeping.{node_keeps, clear_keeps}
use Rattle.trace_world.proofs.Moving.{renewed_knows, renewed_stale}

pub invariant_of-self : goal.invariant_of-self
invariant_of-self c =
    let there = (subst (λ (w : WorldState). c.args.node < length w.nodes) (sym c.self.view_is) c.requires.there) in (
      rw c.clear.ensures (clear_keeps _ _ _ _ _ (node_keeps _ _ _ _ _ _ c.self.invariant.0 there (ap (λ (n : Held). n.layout) c.in-Ok.ensures)) (omega (arith, there, c.self.invariant.0.each))),
      renews_heard _ _ _ _ _ _ _ empty there (renewed_knows _ _ _ _ c.in-Ok.ensures) refl c.new-2.ensures c.self.invariant.1,
    )

pub returns-clause-done : goal.returns-clause-done
returns-clause-done c = λ _. rw (← c.self.view_is) (restarts _ _ _ _ _ _ _ (renewed_knows _ _ _ _ c.in-Ok.ensures) (ap (slice_set c.self.inside.inboxes.items c.args.node) c.clear.ensures))

pub returns-clause-fresh : goal.returns-clause-fresh
returns-clause-fresh c = rw (← c.self.view_is) (renewed_stale _ _ _ _ c.in-Ok.ensures)

pub returns-clause-answers : goal.returns-clause-answers
returns-clause-answers c = rw (← c.self.view_is) (anew _ _ _ _ c.in-Ok.ensures)
