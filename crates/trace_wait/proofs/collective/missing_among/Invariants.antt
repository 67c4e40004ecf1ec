use Rattle.std.proofs.Common.{◌≡◌, take}
use Rattle.trace_wait.specs.Collectives.{missing}
use Rattle.trace_wait.proofs.collective.missing_among.Given as goal

abbrev pub invariant-loop-rank : goal.invariant-loop-rank
invariant-loop-rank l = l.found.items ≡ missing l.run l.comm l.k (take l.rank-index l.ranks)
