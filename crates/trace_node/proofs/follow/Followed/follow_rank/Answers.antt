use Rattle.std.proofs.Common.{ap, set}
use Rattle.trace_node.specs.declared.follow.Reach.{Reach}
use Rattle.trace_node.proofs.Follows.{follows_rank}
use Rattle.trace_node.proofs.follow.Followed.follow_rank.Goals as goal

pub returns-clause-follows : goal.returns-clause-follows
returns-clause-follows c =
    follows_rank c.args.layout.now c.args.know.now c.args.self.now _ c.args.rank c.in_ok-ops_of.field-0 c.requires.rank c.requires.follows c.in_ok-ops_of.ensures
    c.in_ok-set.ensures.ok (ap (λ (r : Reach). set c.args.self.now.reaches.items c.args.rank r) c.reach_of.ensures)
