use Rattle.std.proofs.Common.{All, List, subst, sym}
use Rattle.std.proofs.lemmas.List.Elements.{All-push}
use Rattle.diagnosis_value.specs.declared.diagnosis.Starving.{Starving}
use Rattle.trace_diagnosis.specs.Missed.{HasNearMessages}
use Rattle.trace_diagnosis.proofs.unmatched.push_starving.Goals as goal

pub returns-clause-near : goal.returns-clause-near
returns-clause-near c = λ left is all.
    let has = HasNearMessages left in
    subst (λ (l : List Starving). All has l) (sym c.in_ok-push.ensures.items)
    (All-push has c.args.told.now.items (record { receive = c.args.q.now; before = c.args.before; near = c.args.near }) all is)
