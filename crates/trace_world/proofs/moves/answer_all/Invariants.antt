use Rattle.trace_world.proofs.Moving.{CaughtTo}
use Rattle.trace_world.proofs.moves.answer_all.Given as goal

abbrev pub invariant-loop-node : goal.invariant-loop-node
invariant-loop-node l = CaughtTo l.fn.nodes.items l.nodes.items l.node
