use Rattle.comm_makings.specs.State.{NoneListed}
use Rattle.comm_makings.proofs.run.first_values.Given as goal

abbrev pub invariant-loop-call : goal.invariant-loop-call
invariant-loop-call l = NoneListed l.values.items
