use Rattle.std.proofs.Common.{◌∙◌, refl, sym, subst, List}
use Rattle.std.proofs.lemmas.Result.{IfErr-weaker}
use Rattle.std.specs.FinMap.{empty}
use Rattle.run_files.specs.Manifests.{PackedParts}
use Rattle.command_runs.specs.Packed.{TellPacked}
use Rattle.command_runs.proofs.AllTold.{answers_all, texts_named}
use Rattle.command_runs.proofs.pieces.answering.answer_of_texts.Goals as goal

pub returns-clause-ok : goal.returns-clause-ok
returns-clause-ok g c =
    let file = g.O.Opener.file c.args.run.now.files.now in
    let l = c.args.run.now.layout.now in
    let m = c.args.run.now.manifest.now in
    let tell : TellPacked file l.ranks m.packed empty = subst (λ (ps : List PackedParts). TellPacked file l.ranks ps empty) (sym c.requires) refl in
    answers_all file l m c.pieces-2.result.now c.answer_in_any_order.result tell c.pieces-2.ensures
    (λ view. sym (c.join_laws.ensures.commutative empty view ∙ c.join_laws.ensures.unit view)) c.answer_in_any_order.ensures.ok c.answer_in_any_order.ensures.inside

pub returns-clause-err : goal.returns-clause-err
returns-clause-err g c =
    let file = g.O.Opener.file c.args.run.now.files.now in
    let ranks = c.args.run.now.layout.now.ranks in
    let m = c.args.run.now.manifest.now in
    let tell : TellPacked file ranks m.packed empty = subst (λ (ps : List PackedParts). TellPacked file ranks ps empty) (sym c.requires) refl in
    IfErr-weaker c.answer_in_any_order.result _ _ (λ fault h. texts_named file ranks m empty fault tell (rw c.pieces-2.ensures at h)) c.answer_in_any_order.ensures.err
