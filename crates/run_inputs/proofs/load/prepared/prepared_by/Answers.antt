use Rattle.std.proofs.Common.{◌≡◌, ◌∙◌, ℕ, List, ap, length, subst}
use Rattle.mpi_model.specs.Layouts.{Holds}
use Rattle.comm_makings.specs.World.{world_of}
use Rattle.comm_makings.specs.declared.calls.RankCalls.{RankCalls}
use Rattle.run_files.specs.Manifests.{PieceParts, manifest_of_texts}
use Rattle.text_layouts.specs.Making.{AreObjectsOf, RefusesMaking}
use Rattle.text_layouts.specs.Seats.{kept, missing_from}
use Rattle.run_inputs.specs.Prepared.{form_of, said_text}
use Rattle.run_inputs.proofs.load.prepared.prepared_by.Goals as goal

pub returns-in-Err-clause-err : goal.returns-in-Err-clause-err
returns-in-Err-clause-err c =
    subst (λ (rs : List RankCalls). RefusesMaking rs c.in-Err.fault) c.deref.ensures.value c.in-Err.ensures.fault

pub returns-clause-made : goal.returns-clause-made
returns-clause-made c =
    let made = c.in-Ok.made in
    let ranks = c.args.all.now.ranks.items in
    let are : c.deref.result.now ≡ ranks = c.deref.ensures.value in
    let layout : Holds (length ranks) made.derived.world c.args.sends made.derived.comms.items made.input.layout =
    subst (λ (rs : List RankCalls). Holds (length rs) made.derived.world c.args.sends made.derived.comms.items made.input.layout) are c.in-Ok.ensures.layout in
    let objects : AreObjectsOf c.args.sends ranks made.derived.comms.items =
    subst (λ (rs : List RankCalls). AreObjectsOf c.args.sends rs made.derived.comms.items) are c.in-Ok.ensures.objects in
    let seats = kept c.args.seats.now in
    let missing : c.deref-2.result.now ≡ missing_from 0 seats = c.deref-2.ensures.value ∙ c.in_ok-missing.ensures in
    let rest = λ (m : List ℕ) (n : ℕ). said_text (form_of c.args.saying) c.args.by_digits m n c.args.all.now.calls made in (
      record {
        world = c.in-Ok.ensures.world ∙ ap world_of are;
        objects = objects;
        layout = layout;
        manifest = c.in-Ok.ensures.manifest ∙ ap (λ (ts : List PieceParts). manifest_of_texts ts) c.in_ok-texts.ensures;
      },
      c.in_ok-notes.ensures ∙ ap (λ (m : List ℕ). rest m made.input.layout.ranks) missing ∙ ap (rest (missing_from 0 seats)) layout.same_ranks,
    )
