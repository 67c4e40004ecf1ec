use Rattle.std.proofs.Common.{take}
use Rattle.trace_arguments.specs.Arguments.{AreTold}
use Rattle.trace_arguments.proofs.arguments.told_among.Given as goal

abbrev pub invariant-loop-round : goal.invariant-loop-round
invariant-loop-round l = AreTold l.layout l.entries l.calls (take l.round-index l.rounds) l.told.items
