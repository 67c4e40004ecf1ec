use Rattle.std.proofs.Common.{arith}
use Rattle.trace_know.specs.Trace.{facts_of, view_of}
use Rattle.trace_node.proofs.Below.{below_join}
use Rattle.trace_node.proofs.Nodes.{joined_node}
use Rattle.trace_node.proofs.Within.{within_segment}
use Rattle.trace_node.proofs.node.Node.hold_ready.Goals as goal

pub invariant_of-self : goal.invariant_of-self
invariant_of-self c =
    let layout = c.self.inside.layout.now in
    let know = c.self.inside.know in
    let more = view_of (facts_of c.args.segment) in
    let laws = c.join_laws.ensures in
    let piece = within_segment layout c.args.segment (c.view_laws.ensures.cells (facts_of c.args.segment)) (omega arith) in
    let new = c.in-Ok.ensures.ok in
    joined_node layout know more c.take_ready.new.self c.self.inside.followed c.put.new.kept (λ old. below_join old know more laws.above_one laws.associative laws.commutative laws.below) (laws.cells know more)
    c.self.invariant.within c.self.invariant.follows piece new c.put.ensures
