use Rattle.std.proofs.Common.{◌≡◌, take}
use Rattle.trace_diagnosis.specs.Rounds.{entered}
use Rattle.trace_diagnosis.proofs.rounds.entered_of.Given as goal

abbrev pub invariant-loop-rank : goal.invariant-loop-rank
invariant-loop-rank l = l.found.items ≡ entered l.entries l.round (take l.rank-index l.members)
