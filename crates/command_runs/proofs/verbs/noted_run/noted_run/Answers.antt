use Rattle.std.proofs.Common.{◌≡◌, ◌⊎◌, refl, sym, subst}
use Rattle.std.specs.List.{All}
use Rattle.trace_know.specs.View.{View}
use Rattle.trace_wire.specs.Packed.{IsOfRanks}
use Rattle.command_runs.specs.Notes.{AreNotesOf}
use Rattle.command_runs.specs.Packed.{RefusesFirstPacked, TellPacked}
use Rattle.command_runs.specs.Traces.{IsInside, IsKnown}
use Rattle.command_runs.specs.Refusals.{RefusesPieces}
use Rattle.run_inputs.specs.declared.faults.fault.RunFault.TheVariants.{Memory}
use Rattle.command_runs.proofs.AllTold.{all_told, packed_named, texts_named}
use Rattle.command_runs.proofs.Runs.{handed_on}
use Rattle.command_runs.proofs.verbs.noted_run.noted_run.Goals as goal

pub returns-in_err-packed-clause-err : goal.returns-in_err-packed-clause-err
returns-in_err-packed-clause-err g c =
    let file = g.O.Opener.file c.args.run.now.files.now in
    let ranks = c.args.run.now.layout.now.ranks in
    let m = c.args.run.now.manifest.now in
    let fault = c.in_err-packed.field-0.0 in
    let refuses : (fault ≡ Memory) ⊎ RefusesFirstPacked file ranks m.packed fault = rw c.packed.ensures at c.in_err-packed.ensures.err in
    handed_on c.from_residual.result _ _ c.from_residual.ensures.1 (packed_named file ranks m fault refuses)

pub returns-in_err-gathered-clause-err : goal.returns-in_err-gathered-clause-err
returns-in_err-gathered-clause-err g c =
    let file = g.O.Opener.file c.args.run.now.files.now in
    let ranks = c.args.run.now.layout.now.ranks in
    let m = c.args.run.now.manifest.now in
    let fault = c.in_err-gathered.field-0.0 in
    let tell : TellPacked file ranks m.packed c.in_ok-packed.packed = rw c.packed.ensures at c.in_ok-packed.ensures.ok in
    let refuses : RefusesPieces file ranks m.pieces fault = rw c.pieces.ensures at c.in_err-gathered.ensures.err in
    handed_on c.from_residual-in_err-gathered.result _ _ c.from_residual-in_err-gathered.ensures.1 (texts_named file ranks m c.in_ok-packed.packed fault tell refuses)

pub joined-requires-clause-texts : goal.joined-requires-clause-texts
joined-requires-clause-texts g c =
    subst (λ (v : View). IsOfRanks c.args.run.now.layout.now.ranks v) (sym c.in_ok-texts.ensures) c.in_ok-gathered.ensures.within

pub into_answer_with_ops-requires : goal.into_answer_with_ops-requires
into_answer_with_ops-requires g c = (c.in_ok-know.know, c.in_ok-by_rank.ensures)

pub returns-clause-ok : goal.returns-clause-ok
returns-clause-ok g c =
    let file = g.O.Opener.file c.args.run.now.files.now in
    let ranks = c.args.run.now.layout.now.ranks in
    let m = c.args.run.now.manifest.now in
    let tell : TellPacked file ranks m.packed c.in_ok-packed.packed = rw c.packed.ensures at c.in_ok-packed.ensures.ok in
    let known : IsKnown file m.pieces c.in_ok-gathered.gathered.know = rw c.pieces.ensures at c.in_ok-gathered.ensures.ok in
    let inside : All (IsInside file ranks) m.pieces = rw c.pieces.ensures at c.in_ok-gathered.ensures.inside in
    let notes : AreNotesOf file m.pieces c.in_ok-gathered.notes.items = rw c.pieces.ensures at c.in_ok-gathered.ensures.notes in
    let texts : IsKnown file m.pieces c.in_ok-texts.texts = subst (λ (v : View). IsKnown file m.pieces v) (sym c.in_ok-texts.ensures) known in
    ((c.in_ok-know.know, all_told file ranks m c.in_ok-packed.packed c.in_ok-texts.texts c.in_ok-know.know tell texts inside c.in_ok-know.ensures.know, (refl, c.in_ok-told.ensures c.in_ok-know.know c.in_ok-by_rank.ensures)), notes)
