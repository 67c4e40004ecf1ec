use Rattle.std.proofs.Common.{◌≡◌, ◌∙◌, List, ap, inl, inr, map, refl, string_bytes, subst, sym}
use Rattle.std.proofs.lemmas.Result.{IfOk-weaker}
use Rattle.run_inputs.specs.Folders.{StandForAll}
use Rattle.program_runs.proofs.Endings.{if_both}
use Rattle.program_runs.proofs.ending.init_named.Goals as goal

pub returns-in_ok-names-in-Ok : goal.returns-in_ok-names-in-Ok
returns-in_ok-names-in-Ok g c =
    let lent : map (λ n. n.now) c.as_slice.result.now ≡ map string_bytes c.in-Ok.standing.items =
    ap (map (λ n. n.now)) c.as_slice.ensures.value ∙ c.in_ok-names-in-Ok.ensures ∙ ap (map string_bytes) c.deref.ensures.value in
    IfOk-weaker c.over_init.result _ _ (λ e h. inl (_, subst (StandForAll (g.O.Opener.file c.args.files.now) (map (λ w. w.now) c.args.words.now)) (sym lent) c.in-Ok.ensures.ok, h)) c.over_init.ensures

pub returns-in-Err : goal.returns-in-Err
returns-in-Err g c =
    if_both c.refused_word.result _ _ _ (λ e status errors. inr (c.in-Err.fault, c.in-Err.ensures.err, refl, refl, status, errors))
    c.refused_word.ensures.status c.refused_word.ensures.errors
