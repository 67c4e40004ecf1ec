use Rattle.std.proofs.Common.{◌≡◌, ◌<◌, [], arith, length, refl, slice_index_or, subst, sym}
use Rattle.std.proofs.lemmas.Grind.{common_steps}
use Rattle.trace_wire.specs.Frames.{frame_of}
use Rattle.trace_wire.specs.declared.version.Version.TheVariants.{Two}
use Rattle.trace_world.specs.Shows.{WorldState}
use Rattle.trace_world.proofs.Following.{delivers}
use Rattle.trace_world.proofs.Hearing.{delivers_heard}
use Rattle.trace_world.proofs.Keeping.{laid_keeps}
use Rattle.trace_world.proofs.world.World.deliver_first.Goals as goal

pub invariant_of-self-2 : goal.invariant_of-self-2
invariant_of-self-2 c =
    let is : slice_index_or c.self.inside.mails.items c.args.mail [] ≡ frame_of c.in-Ok.know = grind (arith, common_steps, c.index.ensures, c.in-Ok.ensures.0) in
    let there = (subst (λ (w : WorldState). c.args.node < length w.nodes) (sym c.self.view_is) c.requires.there) in
    let mailed = (subst (λ (w : WorldState). c.args.mail < length w.mails) (sym c.self.view_is) c.requires.mail) in
    let more = c.in_ok-hold_all.ensures.1 in (
      laid_keeps _ _ _ _ _ more.layouts c.self.invariant.0,
      delivers_heard (record { associative = c.join_laws.ensures.associative; commutative = c.join_laws.ensures.commutative; idempotent = c.join_laws.ensures.idempotent }) (c.frame_laws.ensures.views Two Two) _ _ _ _ _ _ _ _ _ _ there mailed is c.in-Ok.ensures.1 more.knows refl c.index_mut.ensures.value c.add.ensures c.self.invariant.1,
    )

pub returns-clause-done : goal.returns-clause-done
returns-clause-done c =
    let is : slice_index_or c.self.inside.mails.items c.args.mail [] ≡ frame_of c.in-Ok.know = grind (arith, common_steps, c.index.ensures, c.in-Ok.ensures.0) in
    let mailed = (subst (λ (w : WorldState). c.args.mail < length w.mails) (sym c.self.view_is) c.requires.mail) in
    λ done. rw (← c.self.view_is) (delivers c.view_laws.ensures.union (c.frame_laws.ensures.views Two Two) _ _ _ _ _ _ _ _ mailed is c.in-Ok.ensures.1 c.in_ok-hold_all.ensures.1.knows)

pub returns-clause-answers : goal.returns-clause-answers
returns-clause-answers c = rw (← c.self.view_is) (c.in_ok-hold_all.ensures.0, c.in_ok-hold_all.ensures.1.stale, c.in_ok-hold_all.ensures.2)
