use Rattle.std.proofs.Common.{◌≡◌, ℕ, ap, inl, inr, map, refl, string_bytes, subst}
use Rattle.std.proofs.lemmas.Result.{IfOk-weaker}
use Rattle.command_line.specs.Program.{asked_rank}
use Rattle.run_inputs.specs.InitAdvice.{IsInitShown}
use Rattle.run_inputs.specs.Inputs.{HasRank, LacksRank}
use Rattle.run_inputs.specs.Seen.{kept_of, seen_by}
use Rattle.run_inputs.specs.declared.faults.init_fault.InitFault.TheVariants.{Outside as NoRank}
use Rattle.program_runs.proofs.Endings.{if_both}
use Rattle.program_runs.proofs.Fronts.{run_inner}
use Rattle.program_runs.proofs.ending.over_texts.Goals as goal

pub returns-in-Err : goal.returns-in-Err
returns-in-Err g c =
    if_both c.showing_init-in-Err.result _ _ _ (λ e status errors. inl (c.in-Err.fault, inr c.in-Err.ensures.err, refl, status, errors))
    c.showing_init-in-Err.ensures.status c.showing_init-in-Err.ensures.errors

pub returns-in-Err-has_rank : goal.returns-in-Err-has_rank
returns-in-Err-has_rank g c =
    let made = c.in-Ok.read.0.made in
    let file = seen_by (map kept_of c.in-Ok.read.1.cuts.items) (g.O.Opener.file c.args.files.now) in
    let why = c.in-Err-has_rank.ensures.err in
    let lacks : LacksRank (asked_rank c.args.how.0) made.input.layout = rw c.asked_rank.ensures at why.1 in
    let ranks = c.ranks-ranks.ensures.value in
    if_both c.showing_init-in-Err-has_rank.result _ _ _
    (λ e status shown. inr (file, c.in-Ok.ensures.seen, made, c.in-Ok.ensures.made.0, inr (lacks, refl, status, subst (λ (n : ℕ). IsInitShown (g.O.Opener.file c.args.files.now) c.args.how.0 (NoRank n) (string_bytes e.errors)) ranks shown)))
    c.showing_init-in-Err-has_rank.ensures.status c.showing_init-in-Err-has_rank.ensures.errors

pub returns : goal.returns
returns g c =
    let made = c.in-Ok.read.0.made in
    let cuts = map kept_of c.in-Ok.read.1.cuts.items in
    let file = seen_by cuts (g.O.Opener.file c.args.files.now) in
    let same : seen_by cuts (g.O.Opener.file c.in-Ok.read.1.files.now) ≡ file = ap (λ f. seen_by cuts (g.O.Opener.file f)) c.in-Ok.ensures.files in
    IfOk-weaker c.over_input.result _ _ (λ e h. inr (
      file,
      c.in-Ok.ensures.seen,
      made,
      c.in-Ok.ensures.made.0,
      inl (run_inner g.O.R.Read.failures file _ c.args.how.0 made.input.layout made.input.manifest g.W.Write.written g.W.Write.failures c.args.out.now c.over_input.new.out e same h),
    )) c.over_input.ensures
