use Rattle.std.proofs.Common.{◌≡◌, ◌∙◌, Some, ap, arith, length, set}
use Rattle.std.specs.Option.{option_map}
use Rattle.std.proofs.lemmas.List.{map-set}
use Rattle.trace_stuck.specs.Shape.{Wait, shape}
use Rattle.trace_diagnosis.specs.Askers.{shapes}
use Rattle.trace_diagnosis.proofs.conditions.put_last.Goals as goal

pub returns-clause-put : goal.returns-clause-put
returns-clause-put c = λ before own is count.
    let old = c.args.of_ranks.now in
    let r = c.args.poller.now.rank in
    let n : length own ≡ c.len.result = omega (arith, count, c.len.ensures, c.args.poller.now.asked.ok) in
    ap shapes c.put_at.ensures ∙ map-set (option_map shape) old r (Some c.in_ok-condition.condition)
    ∙ ap (λ (w : Wait). set (shapes old) r (Some w)) (c.in_ok-condition.ensures.one before own is n)
