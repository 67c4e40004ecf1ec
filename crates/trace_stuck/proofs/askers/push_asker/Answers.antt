use Rattle.std.proofs.Common.{◌++◌, ◌∷◌, [], ◌∙◌, ap, sym, length, refl, ℕ, Vec, Global}
use Rattle.std.proofs.lemmas.Option.{slice_get_read}
use Rattle.trace_stuck.proofs.Noted.{noted_set, at_is}
use Rattle.trace_stuck.proofs.askers.push_asker.Goals as goal

pub returns-in_ok-push : goal.returns-in_ok-push
returns-in_ok-push c =
    let lt = c.if-at-askers.true in
    let is = c.index-askers-at.is in
    let at = at_is c.args.askers.now c.args.s c.index-askers-at.result (slice_get_read c.args.askers.now (length c.args.askers.now) c.args.s c.index-askers-at.result refl lt is) in
    noted_set c.args.askers.now c.args.s c.args.r c.push.new.self lt (c.in_ok-push.ensures.items ∙ ap (λ l. l ++ c.args.r ∷ []) (sym (at ∙ ap (λ (v : Vec ℕ Global). v.items) is)))
