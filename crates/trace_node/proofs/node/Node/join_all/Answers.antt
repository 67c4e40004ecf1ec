use Rattle.std.proofs.Common.{◌∙◌, sym}
use Rattle.trace_node.specs.Node.{HasStranger}
use Rattle.trace_node.proofs.Below.{below_join}
use Rattle.trace_node.proofs.Nodes.{joined_node, not_so, on_ok}
use Rattle.trace_node.proofs.Within.{without_stranger}
use Rattle.trace_node.proofs.node.Node.join_all.Goals as goal

pub invariant_of-self-2 : goal.invariant_of-self-2
invariant_of-self-2 c =
    let layout = c.self.inside.layout.now in
    let know = c.self.inside.know in
    let more = c.args.other.now in
    let laws = c.join_laws.ensures in
    let piece = without_stranger layout more (not_so c.has_stranger.result (HasStranger layout more) c.has_stranger.ensures c.if-has_stranger.false) in
    let new = on_ok _ c.join.result (sym c.is_err.ensures.value ∙ c.if-is_err.false) c.join.ensures.ok in
    joined_node layout know more c.join.new.self c.self.inside.followed c.put.new.kept (λ old. below_join old know more laws.above_one laws.associative laws.commutative laws.below) (laws.cells know more)
    c.self.invariant.within c.self.invariant.follows piece new c.put.ensures
