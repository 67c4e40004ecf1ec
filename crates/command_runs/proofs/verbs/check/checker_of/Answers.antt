use Rattle.std.proofs.Common.{◌≡◌, ◌∙◌, ◌⊎◌, ap, length, sym, List}
use Rattle.std.proofs.lemmas.Bool.{eqb-true}
use Rattle.std.specs.FinMap.{empty}
use Rattle.std.specs.List.{All}
use Rattle.run_files.specs.Manifests.{PackedParts}
use Rattle.mpi_model.specs.Layouts.{Parts}
use Rattle.trace_check.specs.Checker.{held}
use Rattle.trace_know.specs.View.{View, join}
use Rattle.command_runs.specs.Packed.{RefusesFirstPacked, TellPacked}
use Rattle.command_runs.specs.Traces.{IsInside, IsKnown}
use Rattle.command_runs.specs.Refusals.{RefusesPieces}
use Rattle.run_inputs.specs.declared.faults.fault.RunFault.TheVariants.{Memory}
use Rattle.command_runs.proofs.AllTold.{all_told, packed_named, texts_named}
use Rattle.command_runs.proofs.Runs.{handed_on}
use Rattle.command_runs.proofs.Unpacking.{none_told}
use Rattle.command_runs.proofs.verbs.check.checker_of.Goals as goal

pub returns-in_err-packed-clause-err : goal.returns-in_err-packed-clause-err
returns-in_err-packed-clause-err g c =
    let file = g.O.Opener.file c.args.run.now.files.now in
    let ranks = c.args.run.now.layout.now.ranks in
    let m = c.args.run.now.manifest.now in
    let fault = c.in_err-packed.field-0.0 in
    let refuses : (fault ≡ Memory) ⊎ RefusesFirstPacked file ranks m.packed fault = rw c.packed-listed.ensures at c.in_err-packed.ensures.err in
    handed_on c.from_residual.result _ _ c.from_residual.ensures.1 (packed_named file ranks m fault refuses)

pub returns-in_err-checker-clause-err : goal.returns-in_err-checker-clause-err
returns-in_err-checker-clause-err g c =
    let file = g.O.Opener.file c.args.run.now.files.now in
    let ranks = c.args.run.now.layout.now.ranks in
    let m = c.args.run.now.manifest.now in
    let fault = c.in_err-checker.field-0.0 in
    let tell : TellPacked file ranks m.packed c.in_ok-packed.packed = rw c.packed-listed.ensures at c.in_ok-packed.ensures.ok in
    let refuses : RefusesPieces file ranks m.pieces fault = rw c.pieces-pieces.ensures at c.in_err-checker.ensures.err in
    handed_on c.from_residual-in_err-checker.result _ _ c.from_residual-in_err-checker.ensures.1 (texts_named file ranks m c.in_ok-packed.packed fault tell refuses)

pub returns-then-is_empty-clause-ok : goal.returns-then-is_empty-clause-ok
returns-then-is_empty-clause-ok g c =
    let file = g.O.Opener.file c.args.run.now.files.now in
    let ranks = c.args.run.now.layout.now.ranks in
    let m = c.args.run.now.manifest.now in
    let checker = c.in_ok-checker.checker in
    let packed = c.in_ok-packed.packed in
    let tell : TellPacked file ranks m.packed packed = rw c.packed-listed.ensures at c.in_ok-packed.ensures.ok in
    let known : IsKnown file m.pieces checker.know = rw c.pieces-pieces.ensures at c.in_ok-checker.ensures.ok in
    let inside : All (IsInside file ranks) m.pieces = rw c.pieces-pieces.ensures at c.in_ok-checker.ensures.inside in
    let layout : checker.layout ≡ c.args.run.now.layout.now = c.in_ok-checker.ensures.layout ∙ (λ i. (c.in_ok-nothing.ensures i).layout) in
    let count : length m.packed ≡ 0 =
    ap (λ (ps : List PackedParts). length ps) (sym c.packed-listed.ensures) ∙ eqb-true (length c.packed-listed.result.now) 0 (sym c.is_empty.ensures ∙ c.if-is_empty.true) in
    let none : packed ≡ empty = none_told file ranks m.packed packed count tell in
    let is : checker.know ≡ join packed checker.know =
    sym (c.join_laws.ensures.unit checker.know) ∙ c.join_laws.ensures.commutative checker.know empty ∙ ap (λ (v : View). join v checker.know) (sym none) in
    (checker.know, all_told file ranks m packed checker.know checker.know tell known inside is, λ i. held (layout i) checker.know)

pub returns-clause-ok : goal.returns-clause-ok
returns-clause-ok g c =
    let file = g.O.Opener.file c.args.run.now.files.now in
    let ranks = c.args.run.now.layout.now.ranks in
    let m = c.args.run.now.manifest.now in
    let read = c.in_ok-checker.checker in
    let packed = c.in_ok-packed.packed in
    let tell : TellPacked file ranks m.packed packed = rw c.packed-listed.ensures at c.in_ok-packed.ensures.ok in
    let known : IsKnown file m.pieces read.know = rw c.pieces-pieces.ensures at c.in_ok-checker.ensures.ok in
    let inside : All (IsInside file ranks) m.pieces = rw c.pieces-pieces.ensures at c.in_ok-checker.ensures.inside in
    let layout : read.layout ≡ c.args.run.now.layout.now = c.in_ok-checker.ensures.layout ∙ (λ i. (c.in_ok-nothing.ensures i).layout) in
    let view = join read.know packed in
    let is : view ≡ join packed read.know = c.join_laws.ensures.commutative read.know packed in
    (view, all_told file ranks m packed read.know view tell known inside is, c.in_ok-whole.ensures ∙ ap (λ (l : Parts). held l view) layout)
