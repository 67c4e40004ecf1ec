use Rattle.std.proofs.Common.{◌∙◌, ◌≤◌, arith, length, sym}
use Rattle.std.proofs.lemmas.List.{take_all}
use Rattle.trace_wait.proofs.Steps.{lower_is}
use Rattle.trace_wait.proofs.collective.lower.Goals as goal

pub returns-then-m-r-clause-is : goal.returns-then-m-r-clause-is
returns-then-m-r-clause-is c =
    sym (lower_is c.args.members.now c.args.r c.loop-place.place (omega arith) c.loop-place.invariant (λ lt. c.if-m-r.true))

pub returns-clause-is : goal.returns-clause-is
returns-clause-is c =
    let place = c.loop-place.place in
    let ends : length c.args.members.now ≤ place = omega arith in
    sym (take_all place c.args.members.now ends) ∙ sym (lower_is c.args.members.now c.args.r place (omega arith) c.loop-place.invariant (λ lt. absurd (omega (arith, ends, lt))))
