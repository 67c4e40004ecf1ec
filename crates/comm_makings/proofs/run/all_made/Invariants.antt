use Rattle.comm_makings.specs.State.{AreMadeOf}
use Rattle.comm_makings.proofs.run.all_made.Given as goal

abbrev pub invariant-loop-part : goal.invariant-loop-part
invariant-loop-part l = AreMadeOf l.members l.all l.parts l.made.items
