use Rattle.std.proofs.Common.{◌≡◌, take}
use Rattle.trace_wait.specs.Collectives.{missing}
use Rattle.trace_wait.proofs.collective.missing.Given as goal

abbrev pub invariant-loop-place : goal.invariant-loop-place
invariant-loop-place l = l.found.items ≡ missing l.run l.comm l.k (take l.place l.ranks)
