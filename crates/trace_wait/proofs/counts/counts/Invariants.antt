use Rattle.std.proofs.Common.{◌≡◌, map, take}
use Rattle.trace_wait.specs.Calls.{calls_of}
use Rattle.trace_wait.proofs.counts.counts.Given as goal

abbrev pub invariant-loop-r : goal.invariant-loop-r
invariant-loop-r l = l.calls.items ≡ map (calls_of l.entries l.comm) (take l.r-index l.members)
