use Rattle.std.proofs.Common.{◌≡◌, take}
use Rattle.trace_pair.specs.Reach.{with_barriers}
use Rattle.trace_pair.proofs.reach.with_barriers.Given as goal

abbrev pub invariant-loop-comm : goal.invariant-loop-comm
invariant-loop-comm l = l.found.items ≡ with_barriers l.rows (take l.comm-index l.comms)
