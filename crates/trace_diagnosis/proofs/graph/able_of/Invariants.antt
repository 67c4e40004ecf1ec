use Rattle.std.proofs.Common.{◌≡◌, map, take}
use Rattle.trace_diagnosis.specs.Graph.{has_not_ended}
use Rattle.trace_diagnosis.proofs.graph.able_of.Given as goal

abbrev pub invariant-loop-state : goal.invariant-loop-state
invariant-loop-state l = l.able.items ≡ map has_not_ended (take l.state-index l.states)
