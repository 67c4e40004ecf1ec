use Rattle.std.proofs.Common.{◌≡◌, take}
use Rattle.trace_wait.specs.Tallies.{tallied}
use Rattle.trace_wait.proofs.tally.tallies_of.Given as goal

abbrev pub invariant-loop-r : goal.invariant-loop-r
invariant-loop-r l = l.tallies.items ≡ tallied l.entries l.comm (take l.r-index l.members)
