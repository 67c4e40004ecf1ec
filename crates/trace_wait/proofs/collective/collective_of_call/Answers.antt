use Rattle.std.proofs.Common.{◌≡◌, ◌==◌, ◌∙◌, IfOk, ap, find, subst}
use Rattle.trace_ops.specs.Ops.{Ops}
use Rattle.trace_ops.specs.declared.entered.Entered.{Entered}
use Rattle.trace_stuck.specs.Shape.{Wait, shape}
use Rattle.trace_wait.specs.Collectives.{round_number}
use Rattle.trace_wait.proofs.Before.{collective_found}
use Rattle.trace_wait.proofs.collective.collective_of_call.Goals as goal

pub returns-in-Some : goal.returns-in-Some
returns-in-Some c =
    let e = c.in-Some.entered in
    subst (λ (w : Wait). IfOk c.round_part.result (λ x. shape x ≡ w))
    (collective_found c.args.run.now c.args.r c.args.o.now c.args.n e c.round_number.result
    (c.in-Some.ensures ∙ ap (find (λ (d : Entered). d.call == c.args.n)) c.rounds.ensures)
    (c.round_number.ensures ∙ ap (λ (o : Ops). round_number o e) c.requires.same))
    c.round_part.ensures
