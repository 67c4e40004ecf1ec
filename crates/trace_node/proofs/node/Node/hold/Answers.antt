use Rattle.std.proofs.Common.{◌∙◌, sym, arith}
use Rattle.trace_know.specs.Trace.{facts_of, view_of}
use Rattle.trace_node.proofs.Below.{below_join}
use Rattle.trace_node.proofs.Nodes.{joined_node, on_ok}
use Rattle.trace_node.proofs.Within.{within_segment}
use Rattle.trace_node.proofs.node.Node.hold.Goals as goal

pub invariant_of-self-2 : goal.invariant_of-self-2
invariant_of-self-2 c =
    let layout = c.self.inside.layout.now in
    let know = c.self.inside.know in
    let more = view_of (facts_of c.args.segment.now) in
    let laws = c.join_laws.ensures in
    let piece = within_segment layout c.args.segment.now (c.view_laws.ensures.cells (facts_of c.args.segment.now)) (omega arith) in
    let new = on_ok _ c.take.result (sym c.is_err.ensures.value ∙ c.if-is_err.false) c.take.ensures.ok in
    joined_node layout know more c.take.new.self c.self.inside.followed c.put.new.kept (λ old. below_join old know more laws.above_one laws.associative laws.commutative laws.below) (laws.cells know more)
    c.self.invariant.within c.self.invariant.follows piece new c.put.ensures
