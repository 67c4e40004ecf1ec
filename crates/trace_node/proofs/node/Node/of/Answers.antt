use Rattle.trace_node.specs.Node.{HasStranger}
use Rattle.trace_node.proofs.Nodes.{not_so}
use Rattle.trace_node.proofs.Within.{without_stranger}
use Rattle.trace_node.proofs.node.Node.of.Goals as goal

pub knowing-requires : goal.knowing-requires
knowing-requires c =
    without_stranger c.args.layout.now c.args.know (not_so c.has_stranger.result (HasStranger c.args.layout.now c.args.know) c.has_stranger.ensures c.if-has_stranger.false)
