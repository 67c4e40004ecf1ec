use Rattle.std.proofs.Common.{◌∙◌, ap, arith}
use Rattle.std.proofs.lemmas.List.{take_all}
use Rattle.trace_stuck.specs.Distinct.{held}
use Rattle.trace_stuck.proofs.Kept.{held_more}
use Rattle.trace_stuck.proofs.distinct.distinct_conditions.Goals as goal

pub loop-condition-preserved : goal.loop-condition-preserved
loop-condition-preserved c = λ able.
    held_more able c.loop-condition.distinct.items c.push.new.self.items c.args.conditions.now c.loop-condition.condition-index c.condition-item.result c.in_ok-copy.copy
    c.loop-condition-test.true c.condition-item.is (c.in_ok-copy.ensures able) c.in_ok-push.ensures.items (c.loop-condition.invariant able)

pub returns : goal.returns
returns c = λ able. c.loop-condition.invariant able ∙ ap (held able) (take_all c.loop-condition.condition-index c.args.conditions.now (omega arith))
