use Rattle.std.proofs.Common.{◌≡◌, ◌<◌, length, refl, subst, sym, ◌∙◌}
use Rattle.std.specs.Prelude.{slice_index_or}
use Rattle.std.specs.FinMap.{empty}
use Rattle.trace_node.specs.Node.{IsWithin}
use Rattle.trace_world.specs.Shows.{WorldState, knows}
use Rattle.trace_world.proofs.Answers.{still}
use Rattle.trace_world.proofs.Following.{ships, added}
use Rattle.trace_world.proofs.Hearing.{sent_heard}
use Rattle.trace_world.proofs.Keeping.{ship_keeps}
use Rattle.trace_world.proofs.Moving.{of_layout, know_at}
use Rattle.trace_world.proofs.world.World.ship.Goals as goal
use Rattle.trace_wire.specs.declared.version.Version.TheVariants.{Two}

pub invariant_of-self : goal.invariant_of-self
invariant_of-self c =
    let there = (subst (λ (w : WorldState). c.args.node < length w.nodes) (sym c.self.view_is) c.requires.there) in
    let here : IsWithin c.index-place.result.now.layout c.know.result.now = subst (λ v. IsWithin c.index-place.result.now.layout v) (sym c.know.ensures) c.known.ensures in
    let within : IsWithin c.self.inside.layout.now c.know.result.now = subst (λ l. IsWithin l c.know.result.now) (of_layout _ _ _ _ c.self.invariant.0.one_layout there c.index-place.ensures) here in
    (ship_keeps (c.frame_laws.ensures.views Two Two) _ _ _ _ _ _ _ _ c.self.invariant.0 c.in_ok-mail.ensures.ok.0 c.in_ok-mail.ensures.ok.1 within c.add.ensures.ok c.add.ensures.err, sent_heard _ _ _ _ _ _ c.add.ensures.ok c.add.ensures.err c.self.invariant.1)

pub returns-clause-done : goal.returns-clause-done
returns-clause-done c =
    let there = (subst (λ (w : WorldState). c.args.node < length w.nodes) (sym c.self.view_is) c.requires.there) in
    let known : c.know.result.now ≡ slice_index_or (knows c.self.inside.nodes.items) c.args.node empty = c.know.ensures ∙ know_at _ _ _ there c.index-place.ensures in
    λ went. rw (← c.self.view_is) (ships _ _ _ _ _ _ _ known c.in_ok-mail.ensures.ok.1 (added _ _ _ _ _ c.in_ok-mail.ensures.ok.0 c.add.ensures.ok c.add.ensures.err went))

pub returns-clause-answers : goal.returns-clause-answers
returns-clause-answers c = rw (← c.self.view_is) (still _ _ _ _ c.add.ensures.err refl)
