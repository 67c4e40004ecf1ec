use Rattle.std.proofs.Common.{◌≡◌, ◌++◌, take}
use Rattle.trace_wait.specs.Tallies.{rounds_from}
use Rattle.trace_wait.proofs.tally.push_rounds.Given as goal

abbrev pub invariant-loop-k : goal.invariant-loop-k
invariant-loop-k l = l.out.items ≡ l.fn.out.items ++ rounds_from l.comm l.members 0 (take l.k l.tallies)
