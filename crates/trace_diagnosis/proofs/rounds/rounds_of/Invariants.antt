use Rattle.std.proofs.Common.{take}
use Rattle.trace_diagnosis.specs.Rounds.{AreTold}
use Rattle.trace_diagnosis.proofs.rounds.rounds_of.Given as goal

abbrev pub invariant-loop-round : goal.invariant-loop-round
invariant-loop-round l = AreTold l.layout l.entries (take l.round-index l.rounds) l.told
