use Rattle.std.proofs.Common.{◌≡◌, map, take}
use Rattle.trace_diagnosis.specs.Graph.{node_of}
use Rattle.trace_diagnosis.proofs.graph.nodes_of.Given as goal

abbrev pub invariant-loop-need : goal.invariant-loop-need
invariant-loop-need l = l.nodes.items ≡ map (node_of l.ranks) (take l.need-index l.needs)
