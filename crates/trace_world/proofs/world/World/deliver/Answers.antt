use Rattle.std.proofs.Common.{◌≡◌, ◌<◌, ◌∙◌, [], arith, length, slice_index_or, subst, sym, true}
use Rattle.std.proofs.lemmas.Grind.{common_steps}
use Rattle.std.proofs.lemmas.List.{set-get_or}
use Rattle.trace_wire.specs.Frames.{frame_of}
use Rattle.trace_wire.specs.declared.version.Version.TheVariants.{Two}
use Rattle.trace_world.specs.Refusals.{stale}
use Rattle.trace_world.specs.Shows.{WorldState}
use Rattle.trace_world.proofs.Following.{delivers}
use Rattle.trace_world.proofs.Hearing.{nothing_new}
use Rattle.trace_world.proofs.world.World.deliver.Goals as goal

pub returns-then-has-clause-done : goal.returns-then-has-clause-done
returns-then-has-clause-done c =
    let is : slice_index_or c.self.inside.mails.items c.args.mail [] ≡ frame_of c.known.ensures.0 = grind (arith, common_steps, c.index.ensures, c.known.ensures.1) in
    let there = (subst (λ (w : WorldState). c.args.node < length w.nodes) (sym c.self.view_is) c.requires.there) in
    λ done. rw (← c.self.view_is) (delivers c.view_laws.ensures.union (c.frame_laws.ensures.views Two Two) _ _ _ _ _ _ _ _ (omega arith) is c.known.ensures.2
    (nothing_new _ _ _ _ _ _ _ c.self.invariant.1 there c.index-2.ensures (sym c.has.ensures ∙ c.if-has.true) is c.known.ensures.2))

pub returns-then-has-clause-answers : goal.returns-then-has-clause-answers
returns-then-has-clause-answers c = rw (← c.self.view_is) (slice_index_or (stale c.self.inside.nodes.items) c.args.node true, sym (set-get_or (stale c.self.inside.nodes.items) c.args.node true), λ e. e)
