use Rattle.std.proofs.Common.{ℕ, List, Option, ap, inl, inr, subst}
use Rattle.std.proofs.lemmas.Result.{IfOk-weaker}
use Rattle.dumpi_text.specs.Failing.{Fails}
use Rattle.command_line.specs.Program.{asked_rank}
use Rattle.run_inputs.specs.Inputs.{HasRank, RefusesLoading}
use Rattle.program_runs.specs.Endings.{EndsKept}
use Rattle.program_runs.proofs.Endings.{if_both, shown_so}
use Rattle.program_runs.proofs.ending.over_pair.Goals as goal

pub returns-in-Ok : goal.returns-in-Ok
returns-in-Ok g c =
    IfOk-weaker c.over_kept.result _ _ (λ e h. inl (
      c.in-Ok.input.layout,
      c.in-Ok.input.manifest,
      c.in-Ok.ensures.ok,
      subst (λ (f : List ℕ → Option (List ℕ)). EndsKept (Fails g.O.R.Read.failures) f c.args.verb c.in-Ok.input.layout c.in-Ok.input.manifest g.W.Write.written g.W.Write.failures c.args.out.now c.over_kept.new.out e)
          (ap g.O.Opener.file c.new-beside.ensures) h,
    )) c.over_kept.ensures

pub returns-in-Err : goal.returns-in-Err
returns-in-Err g c =
    let file = g.O.Opener.file c.args.files.now in
    let refuses : RefusesLoading _ file (asked_rank c.args.verb) c.args.names.0.now c.args.names.1.now c.in-Err.fault = rw c.asked_rank.ensures at c.in-Err.ensures.err in
    if_both c.showing.result _ _ _
    (λ e status shown. inr (c.in-Err.fault, refuses, shown_so file c.in-Err.fault c.args.out.now c.is_in_words.result _ e c.is_in_words.ensures status shown))
    c.showing.ensures.status c.showing.ensures.errors
