use Rattle.std.proofs.Common.{◌≡◌, false, replicate}
use Rattle.std.specs.FinMap.{empty}
use Rattle.trace_node.specs.Node.{held}
use Rattle.trace_world.proofs.world.new_nodes.Given as goal

abbrev pub invariant-loop : goal.invariant-loop
invariant-loop l = l.nodes.items ≡ replicate l.counter (held l.layout empty false)
