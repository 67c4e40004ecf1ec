use Rattle.std.proofs.Common.{◌≡◌, List, ap, false, inl, inr, map, refl, subst}
use Rattle.std.proofs.lemmas.Result.{IfOk-weaker}
use Rattle.run_files.specs.Manifests.{PieceParts}
use Rattle.run_inputs.specs.Seen.{RefusesLooks, Sees, cut_names, kept_of, seen_by}
use Rattle.program_runs.proofs.Endings.{if_both, shown_so}
use Rattle.program_runs.proofs.Fronts.{cluster_inner}
use Rattle.program_runs.proofs.ending.cluster_kept.Goals as goal

pub returns-in-Ok : goal.returns-in-Ok
returns-in-Ok g c =
    let cuts = map kept_of c.in-Ok.seen.cuts.items in
    let file = seen_by cuts (g.O.Opener.file c.args.files.now) in
    let same : seen_by cuts (g.O.Opener.file c.in-Ok.seen.files.now) ≡ file = ap (λ f. seen_by cuts (g.O.Opener.file f)) c.in-Ok.ensures.files in
    let layout = c.args.input.now.layout in
    let manifest = c.args.input.now.manifest in
    IfOk-weaker c.cluster_over.result _ _ (λ e h. inl (
      file,
      subst (λ (ps : List PieceParts). Sees (g.O.Opener.file c.args.files.now) (cut_names ps) file) c.pieces.ensures c.in-Ok.ensures.seen,
      cluster_inner g.O.R.Read.failures file _ layout manifest g.W.Write.written g.W.Write.failures c.args.out.now c.cluster_over.new.out e same h,
    )) c.cluster_over.ensures

pub returns-in-Err : goal.returns-in-Err
returns-in-Err g c =
    let file = g.O.Opener.file c.args.files.now in
    let refuses = subst (λ (ps : List PieceParts). RefusesLooks (cut_names ps) c.in-Err.fault) c.pieces.ensures c.in-Err.ensures.err in
    if_both c.showing.result _ _ _
    (λ e status shown. inr (c.in-Err.fault, refuses, shown_so file c.in-Err.fault c.args.out.now false false e refl status shown))
    c.showing.ensures.status c.showing.ensures.errors
