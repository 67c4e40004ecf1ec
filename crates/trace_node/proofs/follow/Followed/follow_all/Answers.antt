use Rattle.std.proofs.Common.{◌≡◌, ℕ, subst, arith}
use Rattle.trace_node.specs.Following.{IsFollowedTo}
use Rattle.trace_node.proofs.Follows.{all_followed, starts}
use Rattle.trace_node.proofs.follow.Followed.follow_all.Goals as goal

pub loop-rank-init : goal.loop-rank-init
loop-rank-init c = starts c.args.layout.now c.args.know.now c.args.self.now c.requires

pub returns-clause-index : goal.returns-clause-index
returns-clause-index c =
    let end : c.loop-rank.rank ≡ c.args.layout.now.ranks = omega arith in
    all_followed c.growth_laws.ensures.unchanged c.args.layout.now c.args.know.now _
    (subst (λ (n : ℕ). IsFollowedTo c.args.layout.now c.args.know.now n c.loop-rank.self) end c.loop-rank.invariant)
