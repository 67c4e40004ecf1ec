use Rattle.trace_ops.specs.RankOps.{all_ops}
use Rattle.trace_node.proofs.One.{one_answer}
use Rattle.trace_node.proofs.laws.answers_are_one.Goals as goal

pub returns : goal.returns
returns c = λ layout view one other a b. one_answer c.rising_lists_are_one.ensures layout view (all_ops layout view) one other a b
