use Rattle.std.proofs.Common.{arith, refl}
use Rattle.trace_world.proofs.Moving.{catches_next, caught_all, same_known}
use Rattle.trace_world.proofs.moves.answer_all.Goals as goal

pub loop-node-init : goal.loop-node-init
loop-node-init c = record { same = record { knows = refl; layouts = refl; count = refl }; fresh = λ i lt. absurd (omega (arith, lt)) }

pub loop-node-preserved : goal.loop-node-preserved
loop-node-preserved c = catches_next _ _ _ _ c.loop-node.invariant c.in_ok-answer.ensures.same c.in_ok-answer.ensures.ok

pub returns-in_err-answer-clause-same : goal.returns-in_err-answer-clause-same
returns-in_err-answer-clause-same c = same_known _ _ _ c.loop-node.invariant.same c.in_err-answer.ensures.same

pub returns-clause-ok : goal.returns-clause-ok
returns-clause-ok c = caught_all _ _ _ c.loop-node.invariant (omega (arith, c.loop-node.invariant.same.count))
