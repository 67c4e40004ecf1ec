use Rattle.trace_world.specs.Heard.{AreUnheard}
use Rattle.trace_world.proofs.world.unheard.Given as goal

abbrev pub invariant-loop : goal.invariant-loop
invariant-loop l = AreUnheard l.counter l.heard.items
