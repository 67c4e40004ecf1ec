use Rattle.std.proofs.Common.{◌≡◌, ℕ, List, Option, ap, false, inl, inr, refl, subst}
use Rattle.std.proofs.lemmas.Result.{IfOk-weaker}
use Rattle.dumpi_text.specs.Failing.{Fails}
use Rattle.program_runs.specs.Endings.{EndsClusterKept}
use Rattle.program_runs.proofs.Endings.{if_both, shown_so}
use Rattle.program_runs.proofs.ending.over_cluster.Goals as goal

pub returns-in-Ok : goal.returns-in-Ok
returns-in-Ok g c =
    let file = g.O.Opener.file c.args.files.now in
    IfOk-weaker c.cluster_kept.result _ _ (λ e h. inl (
      c.in-Ok.input.layout,
      c.in-Ok.input.manifest,
      c.in-Ok.ensures.ok,
      subst (λ (f : List ℕ → Option (List ℕ)). EndsClusterKept (Fails g.O.R.Read.failures) f c.in-Ok.input.layout c.in-Ok.input.manifest g.W.Write.written g.W.Write.failures c.args.out.now c.cluster_kept.new.out e)
          (ap g.O.Opener.file c.new-beside.ensures) h,
    )) c.cluster_kept.ensures

pub returns-in-Err : goal.returns-in-Err
returns-in-Err g c =
    let file = g.O.Opener.file c.args.files.now in
    if_both c.showing.result _ _ _
    (λ e status shown. inr (c.in-Err.fault, c.in-Err.ensures.err, shown_so file c.in-Err.fault c.args.out.now false false e refl status shown))
    c.showing.ensures.status c.showing.ensures.errors
