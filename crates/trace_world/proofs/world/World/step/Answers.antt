use Rattle.trace_world.proofs.Answers.{again}
use Rattle.trace_world.proofs.Ending.{same_nodes}
use Rattle.trace_world.proofs.Following.{same_then}
use Rattle.trace_world.proofs.world.World.step.Goals as goal
use Rattle.std.proofs.Common.{◌∙◌, sym}

pub returns-clause-answers : goal.returns-clause-answers
returns-clause-answers c = again _ _ _ _ _ _ _ (sym c.joins_more.ensures ∙ c.if-not-joins_more.false) c.in_ok-hold_step.ensures.answers (rw c.node.ensures at c.has_answer-had.ensures) (rw c.node-2.ensures at c.answer_again.ensures.answers)

pub returns-clause-same : goal.returns-clause-same
returns-clause-same c = same_then _ _ _ c.in_ok-hold_step.ensures.same (same_nodes _ _ c.answer_again.ensures.same)
