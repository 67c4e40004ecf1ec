use Rattle.std.proofs.Common.{◌∙◌}
use Rattle.trace_node.proofs.Follows.{follows_all}
use Rattle.trace_node.proofs.follow.Followed.of_all.Goals as goal

pub returns-clause-follows : goal.returns-clause-follows
returns-clause-follows c =
    follows_all c.args.layout.now c.args.know.now _ (c.in_ok-index.ensures ∙ c.in_ok-all_ops.ensures) c.in_ok-reaches.ensures
