use Rattle.side_by_side.specs.Jobs.{AllDone}
use Rattle.side_by_side.proofs.crew.done_in_turn.Given as goal

abbrev pub invariant-loop : goal.invariant-loop
invariant-loop g l = AllDone (g.J.Jobs.gives l.jobs) l.done.items
