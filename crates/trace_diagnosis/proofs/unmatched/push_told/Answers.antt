use Rattle.std.proofs.Common.{All, List, subst, sym}
use Rattle.std.proofs.lemmas.List.Elements.{All-push}
use Rattle.diagnosis_value.specs.declared.diagnosis.LeftOver.{LeftOver}
use Rattle.trace_diagnosis.specs.Missed.{HasNearReceives}
use Rattle.trace_diagnosis.proofs.unmatched.push_told.Goals as goal

pub returns-clause-near : goal.returns-clause-near
returns-clause-near c = λ all.
    let has = HasNearReceives c.args.found.now.starving.items in
    subst (λ (l : List LeftOver). All has l) (sym c.in_ok-push.ensures.items) (All-push has c.args.told.now.items c.in_ok-one.one all c.in_ok-one.ensures.near)
