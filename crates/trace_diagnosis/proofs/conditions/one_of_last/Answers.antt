use Rattle.std.proofs.Common.{◌∙◌, List, ap, arith, map}
use Rattle.trace_stuck.specs.Shape.{OnOne, Wait, shape, waits_of}
use Rattle.trace_diagnosis.proofs.Lists.{before_last, last_own}
use Rattle.trace_diagnosis.proofs.conditions.one_of_last.Goals as goal

pub returns-clause-rest : goal.returns-clause-rest
returns-clause-rest c = λ before own is count.
    ap (map shape) c.in_ok-own.ensures.items
    ∙ before_last shape c.args.rest.now.items before own is c.args.count c.saturating_sub-at.result count (omega (arith, c.saturating_sub-at.ensures, c.len.ensures, c.args.rest.now.ok))

pub returns-clause-one : goal.returns-clause-one
returns-clause-one c = λ before own is count.
    c.one.ensures ∙ ap (λ (l : List Wait). OnOne (waits_of l))
    (ap (map shape) c.in_ok-own.ensures.tail
    ∙ last_own shape c.args.rest.now.items before own is c.args.count c.saturating_sub-at.result count (omega (arith, c.saturating_sub-at.ensures, c.len.ensures, c.args.rest.now.ok)))
